-- What each kind of layer makes of an address and of a patience.
-- A reader must believe: the offset layer has no address below its base, the guard layer guards from its first to its last
-- address, and the slow layer adds the smaller of its setting and 4,096 less the patience below.
use Rattle.std.specs.Prelude.{ℕ, ◌+◌, ◌-◌, ◌≤◌, min, Bool, false, ◌&&◌, Some, None, Option, nat_le, if◌then◌else◌}
use Rattle.std.proofs.Common.{arith}
use Rattle.layer.specs.declared.kind.Kind.{Kind}
use Rattle.layer.specs.declared.kind.Kind.TheVariants.{Offset, Guard, Slow}

abbrev pub address_under : Kind → ℕ → Option ℕ
address_under (Offset base) a = if nat_le base a then Some (a - base) else None
address_under (Guard first last) a = Some a
address_under (Slow waits) a = Some a

abbrev pub guards : Kind → ℕ → Bool
guards (Offset base) a = false
guards (Guard first last) a = nat_le first a && nat_le a last
guards (Slow waits) a = false

abbrev pub added : Kind → ℕ → ℕ
added (Offset base) patience = 0
added (Guard first last) patience = 0
added (Slow waits) patience = min waits (4096 - patience)

-- No layer takes a patience past 4,096.
pub within : (k : Kind) (p : ℕ) → p ≤ 4096 → p + added k p ≤ 4096
within (Offset base) p h = omega arith
within (Guard first last) p h = omega arith
within (Slow waits) p h = omega arith
