use Rattle.std.proofs.Common.{refl}
use Rattle.std.proofs.lemmas.Bool.Decides.{Decides-eqb}
use Rattle.std.proofs.lemmas.Slice.Eq.{strip_prefix_is}
use Rattle.fault_line.proofs.read.Reader.mark.Goals as goal

pub returns-in_err-self : goal.returns-in_err-self
returns-in_err-self c =
    let h = strip_prefix_is Decides-eqb c.args.self.now.left.now c.args.mark.now _ c.strip_prefix.ensures.cases in
    rw c.from_residual.ensures (rw c.in_err-self.was at h, refl)

pub returns : goal.returns
returns c =
    let h = strip_prefix_is Decides-eqb c.args.self.now.left.now c.args.mark.now _ c.strip_prefix.ensures.cases in
    rw c.in_ok-self.was at h
