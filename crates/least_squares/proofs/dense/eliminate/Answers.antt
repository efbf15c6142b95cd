-- `eliminate` is `eliminate_to`. The loop's invariant: the columns before col have given the system that memory holds. Assumes nothing.
use mathlib.Core.Path.{◌≡◌, refl, sym, ap, ◌∙◌}
use Prim.Native.Nat.{ℕ, suc}
use native.Mathlib.Omega.{arith}
use native.Mathlib.Numerals.{add-one}
use Rattle.least_squares.specs.Lm.{eliminate_to}
use Rattle.least_squares.specs.Dense.{system_at}
use Rattle.least_squares.proofs.MemoryLaws.{kept_refl, kept_trans}
use Rattle.least_squares.proofs.DenseLaws.{reached_some, reached_none, some_reached, none_reached, one_more, none_at_last}
use Rattle.least_squares.proofs.dense.eliminate.Goals as goal

pub loop-col-init : goal.loop-col-init
unfolding eliminate_to
loop-col-init c = (omega arith, refl, kept_refl _ 0 _)

pub returns-then-not-clear_column : goal.returns-then-not-clear_column
returns-then-not-clear_column c =
    let a = c.args in
    let x = c.clear_column in
    let w = system_at a.s.now a.n in
    let m = one_more w a.scale a.n c.loop-col.col (system_at c.loop-col.s a.n) c.loop-col.invariant.1 in
    let o = reached_none c.loop-col.s _ a.n _ x.result (c.if-not-clear_column.true) x.ensures in
    none_reached a.s.now _ a.n _ (none_at_last w a.scale a.n (suc c.loop-col.col) a.n (omega arith) (m ∙ o)) (kept_trans a.s.now c.loop-col.s _ 0 _ c.loop-col.invariant.2 x.ensures.kept)

pub loop-col-preserved : goal.loop-col-preserved
loop-col-preserved c =
    let a = c.args in
    let x = c.clear_column in
    let w = system_at a.s.now a.n in
    let m = one_more w a.scale a.n c.loop-col.col (system_at c.loop-col.s a.n) c.loop-col.invariant.1 in
    let o = reached_some c.loop-col.s _ a.n _ x.result (c.if-not-clear_column.false) x.ensures in
    (omega arith, rw add-one (m ∙ o), kept_trans a.s.now c.loop-col.s _ 0 _ c.loop-col.invariant.2 x.ensures.kept)

pub returns : goal.returns
returns c =
    let a = c.args in
    let e : c.loop-col.col ≡ a.n = omega arith in
    let o = ap (λ (k : ℕ). eliminate_to (system_at a.s.now a.n) a.scale a.n k) (sym e) ∙ c.loop-col.invariant.1 in
    some_reached a.s.now c.loop-col.s a.n _ o c.loop-col.invariant.2
