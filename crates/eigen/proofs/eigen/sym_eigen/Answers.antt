-- `eigen::sym_eigen`: its four steps, from the identity over the sweeps and the diagonal to the sort, are those of the definition. Assumes nothing.
use mathlib.Core.Path.{◌∙◌}
use Rattle.eigen.proofs.EigenSortLaws.{sym_eigen_is}
use Rattle.eigen.proofs.eigen.sym_eigen.Goals as goal

pub returns : goal.returns
returns c =
    let room = c.sweeps.auto.v ∙ c.unit.auto.v ∙ c.requires.v_len in
    sym_eigen_is c.args.n c.args.m.now _ _ _ _ _ _ c.unit.ensures c.sweeps.ensures c.diagonal.ensures c.sort.ensures room
