-- `eigen6::sym_eigen` meets its contract. The pairs are those that the call of `eigen` leaves. Assumes nothing.
use Rattle.eigen.proofs.EigenSortLaws.{held_sym_eigen}
use Rattle.spans.proofs.eigen6.sym_eigen.Goals as goal

pub returns : goal.returns
returns c = rw (held_sym_eigen c.args.n _ _ _ _ c.sym_eigen.ensures, c.lay_out.ensures) at c.pairs.ensures
