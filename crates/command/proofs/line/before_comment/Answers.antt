use Rattle.std.proofs.Common.{take, ap, ◌∙◌}
use Rattle.command.proofs.line.before_comment.Goals as goal

pub returns : goal.returns
returns c = ap (λ n. take n c.args.line.now) (c.unwrap_or-end.ensures ∙ c.comment.ensures)
