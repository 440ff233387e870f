-- Waits that stay the same: of transfers under a layer that guards nothing, and along a run.
use Rattle.std.proofs.Common.{◌≡◌, ℕ, ◌+◌, ◌-◌, min, false, cond, Some, None, Ok, Err, Option, Result, refl, sym, ap, ◌∙◌}
use Rattle.std.specs.Prelude.{OnOk, is_err}
use Rattle.refusal.specs.declared.Refusal.{Refusal}
use Rattle.card.specs.declared.cell.Cell.{Cell}
use Rattle.card.specs.declared.cell.Cell.TheVariants.{Absent, Fixed, Open}
use Rattle.card.specs.declared.transfer.Direction.{Direction}
use Rattle.card.specs.declared.transfer.Direction.TheVariants.{Read, Write}
use Rattle.card.specs.declared.transfer.Request.{Request}
use Rattle.card.specs.declared.transfer.Transfer.{Transfer}
use Rattle.card.specs.Meaning.{Meaning}
use Rattle.layer.specs.declared.kind.Kind.{Kind}
use Rattle.layer.specs.declared.kind.Kind.TheVariants.{Offset, Slow}
use Rattle.layer.specs.Waits.{guarded_write, waits_at, waits_of}
use Rattle.clocked.specs.declared.tick.Tick.{Tick}
use Rattle.machine.specs.declared.axis.Axis.{Axis}
use Rattle.clocked.specs.declared.processor.Processor.{Processor}
use Rattle.clocked.specs.Calls.{Chosen}
use Rattle.clocked.specs.Runs.{Config}
use Rattle.clocked.specs.Table.{Row, moves, begins, polls}
use Rattle.lent_words.specs.Lending.{ClocksTo, none, accepted, refused, Ran}

unguarded : (d : Direction) (c : Cell) (x : ℕ) → cond (guarded_write d false c) 0 x ≡ x
unguarded Read c x = refl
unguarded (Write w) (Absent o) x = refl
unguarded (Write w) (Fixed v o) x = refl
unguarded (Write w) (Open v) x = refl

module _ (m n : Meaning) (u v : ℕ) (f h : Request → ℕ) (same : (q : Request) → f q ≡ h q) (more : u ≡ v) (q : Request) where
  same_waits : (x : Option ℕ) → waits_at x false m u f q ≡ waits_at x false n v h q
  same_waits None = refl
  same_waits (Some b) =
      unguarded q.direction (m.map b) (f (record q { address = b }) + u)
      ∙ (ap (λ k. k + u) (same (record q { address = b })) ∙ ap (λ k. h (record q { address = b }) + k) more
      ∙ sym (unguarded q.direction (n.map b) (h (record q { address = b }) + v)))

module _ (m n : Meaning) (f h : Request → ℕ) (same : (q : Request) → f q ≡ h q) (patience : m.patience ≡ n.patience) (q : Request) where
  pub slow_waits : (w : ℕ) → waits_of (Slow w) m f q ≡ waits_of (Slow w) n h q
  slow_waits w =
      same_waits m n (min w (4096 - m.patience)) (min w (4096 - n.patience)) f h same (ap (λ p. min w (4096 - p)) patience) q (Some q.address)

  pub offset_waits : (b : ℕ) → waits_of (Offset b) m f q ≡ waits_of (Offset b) n h q
  offset_waits b = same_waits m n 0 0 f h same refl q _

  -- Of two layers whose kind is known.
  pub slow_layers : (j k : Kind) (w : ℕ) → j ≡ Slow w → k ≡ Slow w → waits_of j m f q ≡ waits_of k n h q
  slow_layers j k w e d = ap (λ z. waits_of z m f q) e ∙ (slow_waits w ∙ sym (ap (λ z. waits_of z n h q) d))

  pub offset_layers : (j k : Kind) (b : ℕ) → j ≡ Offset b → k ≡ Offset b → waits_of j m f q ≡ waits_of k n h q
  offset_layers j k b e d = ap (λ z. waits_of z m f q) e ∙ (offset_waits b ∙ sym (ap (λ z. waits_of z n h q) d))

module _ (f g : Request → ℕ) (same : (q : Request) → f q ≡ g q) where
  pub chosen_as : (r : Row) (x y : Option Transfer) → Chosen f r x y → Chosen g r x y
  chosen_as (moves m) x y h = h
  chosen_as (begins b n) None y h = h ∙ same b
  chosen_as (begins b n) (Some t) y h = h
  chosen_as (polls take s a) x y h = h

  pub rechosen : {n : ℕ} {a c : Config} → ClocksTo f n a c → ClocksTo g n a c
  rechosen (none a) = none a
  rechosen (accepted n a b c r e made chosen rest) = accepted n a b c r e made (chosen_as _ _ _ chosen) (rechosen rest)
  rechosen (refused n a b r e made) = refused n a b r e made

  pub reran : {a : Axis} {n : ℕ} {layers : Meaning → Meaning} {p : Processor} {before after : Meaning}
      → Ran a n layers f before p after → Ran a n layers g before p after
  reran r = record { last = r.last; run = rechosen r.run; cells = r.cells }

-- What holds of an accepted clock.
pub of_accepted : (r : Result Tick Refusal) (P : Type 0) → is_err r ≡ false → OnOk r P → P
of_accepted (Ok t) P e h = h
of_accepted (Err x) P e h = cc
