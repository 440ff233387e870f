-- What an axis that ran on a layer did on the card below.
use Rattle.std.proofs.Common.{◌≡◌, ℕ, ◌∙◌, Ok, Err, Result, refl, ap, subst}
use Rattle.refusal.specs.declared.Refusal.{Refusal}
use Rattle.card.specs.declared.transfer.Request.{Request}
use Rattle.card.specs.Meaning.{Meaning, idle}
use Rattle.layer.specs.declared.kind.Kind.{Kind}
use Rattle.layer.specs.declared.kind.Kind.TheVariants.{Offset, Slow}
use Rattle.layer.specs.Shown.{shown}
use Rattle.machine.specs.declared.axis.Axis.{Axis}
use Rattle.machine.specs.declared.axis.Axis.TheVariants.{One, Two, Three}
use Rattle.machine.specs.Axes.{axis_of, axis_number}
use Rattle.clocked.specs.declared.processor.Processor.{Processor}
use Rattle.clocked.specs.Calls.{PoweredAs}
use Rattle.clocked.specs.Processor.{fresh}
use Rattle.clocked.specs.Runs.{config}
use Rattle.lent_words.specs.Lending.{under, under_both, ClocksTo, Ran}

pub known_axis : (a : Axis) → axis_of (axis_number a) ≡ Ok a
known_axis One = refl
known_axis Two = refl
known_axis Three = refl

-- The layer of the kind k over the card m, as power-up and the run left it.
pub ran_on_layer : (a : Axis) (clocks : ℕ) (choice : Request → ℕ) (x : Result Axis Refusal) (k : Kind) (m n first powered last : Meaning) (p q : Processor)
    → x ≡ Ok a → first ≡ under k m → PoweredAs x first (Ok p) powered
    → ClocksTo choice clocks (config p powered) (config q last) → last.map ≡ (under k n).map → Ran a clocks (under k) choice m q n
ran_on_layer a clocks choice (Ok b) k m n first powered last p q known made (fit, on) ran same =
    let start : powered ≡ under k m = on ∙ ap idle made in
    let axis : p ≡ fresh a = cc in
    let ran = subst (λ (c : Meaning). ClocksTo choice clocks (config p c) (config q last)) start ran in
    let ran = subst (λ (r : Processor). ClocksTo choice clocks (config r (under k m)) (config q last)) axis ran in
    record { last = last; run = ran; cells = same }
ran_on_layer a clocks choice (Err e) k m n first powered last p q known made (refused, on) ran same = cc

-- The same through the offset layer below.
pub ran_below : (a : Axis) (clocks base waits : ℕ) (choice : Request → ℕ) (m n first last : Meaning) (q : Processor)
    → first ≡ under (Offset base) m → Ran a clocks (under (Slow waits)) choice first q last → last.map ≡ (under (Offset base) n).map
    → Ran a clocks (under_both base waits) choice m q n
ran_below a clocks base waits choice m n first last q made ran below =
    record {
      last = ran.last;
      run = subst (λ (f : Meaning). ClocksTo choice clocks (config (fresh a) (under (Slow waits) f)) (config q ran.last)) made ran.run;
      cells = ran.cells ∙ ap (shown (Slow waits)) below;
    }
