-- `solve_dense` is `solve_dense` of the matrix and the right side that memory holds: the scale is the definition's (`scaled`), and where elimination reaches an end, so does the
-- definition's; from there the answer is the back substitution's. Assumes nothing.
use mathlib.Core.Path.{◌≡◌, refl, ◌∙◌}
use Prim.Native.Nat.{◌+◌, ◌-◌, ◌*◌}
use native.Mathlib.Omega.{arith}
use borrow.Author.Rules.{rules}
use Rattle.least_squares.specs.Lm.{scale_of}
use Rattle.least_squares.specs.Memory.{part}
use Rattle.least_squares.proofs.MemoryLaws.{kept_trans}
use Rattle.least_squares.proofs.DenseLaws.{reached_some, reached_none, dense, no_system, answered}
use Rattle.least_squares.proofs.dense.solve_dense.Goals as goal

pub max-scale-requires : goal.max-scale-requires
max-scale-requires c =
    search rules

-- `scaled`: the scale of the matrix at entry
pub returns-then-not-eliminate : goal.returns-then-not-eliminate
returns-then-not-eliminate c =
    let scaled : let g = c.args in c.max-scale.result ≡ scale_of (part g.s.now 0 (g.n * g.n)) =
    let g = c.args in
    c.max-scale.ensures ∙ rw c.largest.ensures refl in
    let g = c.args in
    let x = c.eliminate in
    let ok = c.if-not-eliminate.true in
    let none = reached_none g.s.now _ g.n _ x.result ok x.ensures in
    dense g.s.now _ g.n _ (no_system g.s.now g.n c.max-scale.result (scaled) none) x.ensures.kept

pub returns : goal.returns
returns c =
    let scaled : let g = c.args in c.max-scale.result ≡ scale_of (part g.s.now 0 (g.n * g.n)) =
    let g = c.args in
    c.max-scale.ensures ∙ rw c.largest.ensures refl in
    let g = c.args in
    let x = c.eliminate in
    let b = c.back.ensures in
    let all = c.all_finite in
    let size : g.n * g.n + g.n - g.n * g.n ≡ g.n = omega arith in
    let ok = c.if-not-eliminate.false in
    let some = reached_some g.s.now _ g.n _ x.result ok x.ensures in
    dense g.s.now _ g.n all.result
    (answered g.s.now g.n c.max-scale.result (scaled) _ _ all.result some b.system (rw size at all.ensures))
    (kept_trans g.s.now _ _ 0 _ x.ensures.kept b.kept)
