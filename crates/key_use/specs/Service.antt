-- Registers set with the service key.
-- A reader must believe: a processor serviced has its pending result stored, then the words in their registers, and its key in.
use Rattle.std.specs.Prelude.{◌≡◌, ℕ, false, Ok, Result}
use Rattle.refusal.specs.declared.Refusal.{Refusal}
use Rattle.refusal.specs.Unless.{UnlessRefused}
use Rattle.clocked.specs.declared.processor.Processor.{Processor}
use Rattle.clocked.specs.Changes.{written_back, locking, setting}
use Rattle.clocked.specs.Refusals.{draw_refusal}

abbrev pub with_register : ℕ → ℕ → Processor → Processor
with_register n w p = locking false (setting n w (written_back p))

abbrev pub with_registers : ℕ × ℕ → ℕ × ℕ → Processor → Processor
with_registers a b p = locking false (setting b.0 b.1 (setting a.0 a.1 (written_back p)))

-- The processor p is s afterwards; where its key cannot be drawn, it stays as it is.
abbrev pub Serviced : Processor → Processor → Result (Unit {0}) Refusal → Processor → Type 0
Serviced p s r q = UnlessRefused (draw_refusal p) r (q ≡ p) ((r ≡ Ok tt) × (q ≡ s))
