-- A machine that is determined by its calls and by the waits that its card chooses: equal calls, with equal arguments, to equal
-- processors on cards of equal meaning answer and end the same, where the card chose the same waits for each transfer that was
-- begun.
-- A reader must believe: nothing; it is shown of the machine that the five calls make.
use Rattle.std.specs.Prelude.{◌≡◌, List, map}
use Rattle.clocked.specs.Comparison.{begun_in}
use Rattle.clocked.specs.Runs.{Config, call_of, Entry, Run}

pub record Determined (M : Entry → Type 0) : Type 0 where
  -- entries from one configuration, of one call
  pub entry : (e f : Entry) → M e → M f → e.before ≡ f.before → call_of e.event ≡ call_of f.event → begun_in e ≡ begun_in f → e ≡ f
  -- runs from one configuration, of the same calls
  pub run : (start c d : Config) (es fs : List Entry) → Run M start es c → Run M start fs d →
      map (λ e. call_of e.event) es ≡ map (λ e. call_of e.event) fs → map begun_in es ≡ map begun_in fs → (es ≡ fs) × (c ≡ d)
