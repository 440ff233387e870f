use Rattle.std.proofs.Common.{◌≡◌, ℕ, List, [], ◌++◌, Option, Some, None, false, ap, ◌∙◌, below_more}
use Rattle.std.specs.Option.{is_some}
use Rattle.std.proofs.lemmas.Bool.{false≢true}
use Rattle.std.proofs.lemmas.List.{get_or-map}
use Rattle.fault_line.specs.Reading.{MarkRead}
use Rattle.fault_line.proofs.read.Reader.name.Goals as goal

missed : (mark text after : List ℕ) (r : Option (Unit {0})) → MarkRead mark text r after → false ≡ is_some r
    → ((rest : List ℕ) → text ≡ mark ++ rest → ⊥) × (after ≡ text)
missed mark text after (Some _) h e = absurd (false≢true e)
missed mark text after None h e = h

pub loop-i-preserved : goal.loop-i-preserved
loop-i-preserved c =
    let at = get_or-map (λ t. t.now) c.args.names.now c.loop-i.i _ [] c.loop-i-test.true in
    let h = missed _ _ _ _ c.mark-in-loop-i.ensures c.if-is_some.ensures in
    let same = c.loop-i.invariant.0 in (
      h.1 ∙ same,
      below_more _ _ c.loop-i.invariant.1
          (λ rest e. h.0 rest (same ∙ e ∙ ap (λ name. name ++ rest) at)),
    )
