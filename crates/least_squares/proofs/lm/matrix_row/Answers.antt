-- `least_squares::lm::matrix_row`. The invariant: the first k entries of the row are worked from the slopes and weights at entry, and all else is as at entry, the slopes and weights
-- too (`gram_kept`), so that the list still names the columns of row i (`columns_in`). Assumes nothing.
use mathlib.Core.Path.{refl, ◌∙◌}
use Prim.Native.Nat.{ℕ, ◌+◌, ◌*◌}
use native.Mathlib.Omega.{arith}
use lib.Ieee.{nan}
use Rattle.least_squares.specs.Lm.{gram_at}
use Rattle.least_squares.proofs.MemoryLaws.{kept_at_below}
use Rattle.least_squares.proofs.LmLaws.{row_fits, gram_kept, fill_step}
use Rattle.least_squares.proofs.ColumnLaws.{columns_front, columns_in, finite_row, finite_above}
use Rattle.least_squares.proofs.lm.matrix_row.Goals as goal

pub gram-requires-clause-filled : goal.gram-requires-clause-filled
gram-requires-clause-filled c =
    let g = c.args in
    let o = g.s.now in
    let s = c.loop-k.s in
    let row = g.i * g.n in
    let listed = columns_front o row g.n _ _ (omega (arith, c.filled-m.auto.list)) c.filled-m.ensures.first in
    columns_in o s row g.n _ _ (λ q h. kept_at_below o s g.at (g.at + (g.i + 1)) (row + q) nan (omega arith) c.loop-k.invariant.kept) listed

pub gram-requires-clause-finite_at : goal.gram-requires-clause-finite_at
gram-requires-clause-finite_at c =
    let g = c.args in
    let o = g.s.now in
    let s = c.loop-k.s in
    let k = c.loop-k.k in
    let end = g.at + (g.i + 1) in
    let kept = c.loop-k.invariant.kept in
    let finite = c.requires.finite_at in
    (finite_row o s g.n g.i k g.at end (omega arith) (omega arith) kept finite.0, finite_above o s g.w g.n g.at end (omega arith) kept finite.1)

pub loop-k-preserved : goal.loop-k-preserved
loop-k-preserved c =
    let g = c.args in
    let o = g.s.now in
    let l = c.loop-k in
    let s = l.s in
    let k = l.k in
    let end = g.at + (g.i + 1) in
    let kept = l.invariant.kept in
    let fits = row_fits k g.n (g.i + 1) (omega arith) in
    let sum = gram_kept o s g.n (g.i + 1) g.w g.at end k g.i (omega arith) (omega arith) (omega arith) (omega arith) kept in
    let r = fill_step o s _ g.at (g.i + 1) k c.gram.result (λ (j : ℕ). gram_at o (j * g.n) (g.i * g.n) g.w g.n) (omega arith) (omega arith) kept l.invariant.worked (c.gram.ensures ∙ sum) refl in
    record { kept = r.0; worked = r.1 }

pub returns : goal.returns
returns c =
    record { entries = λ k h. c.loop-k.invariant.worked k (omega arith); kept = c.loop-k.invariant.kept }
