-- A call that is refused, or else does what it does.
-- A reader must believe: this is the shape of every call that can be refused.
use Rattle.std.specs.Prelude.{◌≡◌, Some, None, Err, Option, Result}

-- By the refusal that is due, if any: the call answers it, and Same holds, which says that nothing has changed. If none is
-- due, Does holds.
abbrev pub UnlessRefused : {T E : Type 0} → Option E → Result T E → Type 0 → Type 0 → Type 0
UnlessRefused (Some e) r Same Does = (r ≡ Err e) × Same
UnlessRefused None r Same Does = Does
