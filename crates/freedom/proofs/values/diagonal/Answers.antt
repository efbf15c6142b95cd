-- `freedom::values::diagonal`: each entry is copied to its place behind the matrix, which is not written. The loop's invariant: the first i entries are copied. Assumes nothing.
use Rattle.freedom.proofs.ValueLaws.{diagonal_step}
use mathlib.Core.Path.{◌≡◌, refl}
use Prim.Native.Nat.{◌+◌, ◌*◌}
use native.Mathlib.Omega.{arith}
use Rattle.eigen.specs.EigenMemory.{diagonal}
use Rattle.eigen.proofs.EigenLaws.{row_within}
use Rattle.least_squares.proofs.MemoryLaws.{kept_refl, kept_set}
use Rattle.freedom.proofs.values.diagonal.Goals as goal

pub loop-i-init : goal.loop-i-init
unfolding diagonal
loop-i-init c = (omega arith, kept_refl _ _ _, refl)

pub overflow_mul-s : goal.overflow_mul-s
overflow_mul-s c =
    omega (arith, c.loop-i.invariant.1.size, row_within c.loop-i-test.true)

pub overflow_add-s : goal.overflow_add-s
overflow_add-s c =
    omega (arith, c.loop-i.invariant.1.size, row_within c.loop-i-test.true)

pub offset_bounds-s-i : goal.offset_bounds-s-i
offset_bounds-s-i c =
    omega (arith, c.loop-i.invariant.1.size, row_within c.loop-i-test.true)

pub bounds-s-i : goal.bounds-s-i
bounds-s-i c =
    omega (arith, c.loop-i.invariant.1.size, row_within c.loop-i-test.true)

pub overflow_add-s-in-loop-i : goal.overflow_add-s-in-loop-i
overflow_add-s-in-loop-i c =
    omega (arith, c.loop-i.invariant.1.size, row_within c.loop-i-test.true)

pub offset_bounds-s-k : goal.offset_bounds-s-k
offset_bounds-s-k c =
    omega (arith, c.loop-i.invariant.1.size, row_within c.loop-i-test.true)

pub bounds-s-k : goal.bounds-s-k
bounds-s-k c =
    omega (arith, c.loop-i.invariant.1.size, row_within c.loop-i-test.true)

pub loop-i-preserved : goal.loop-i-preserved
loop-i-preserved c =
    let l = c.loop-i in
    let a = c.args in (
      omega arith,
      kept_set a.s.now l.s (a.n * a.n) (a.n * a.n + a.n) (a.n * a.n + l.i) _ (omega arith) (omega arith) l.invariant.1,
      diagonal_step a.s.now l.s a.n l.i (omega arith) (omega arith) l.invariant.1 l.invariant.2,
    )

pub shape_of-s : goal.shape_of-s
shape_of-s c = c.loop-i.invariant.1.size

pub returns : goal.returns
returns c =
    let e : c.loop-i.i ≡ c.args.n = omega arith in
    record { holds = rw e at c.loop-i.invariant.2; kept = c.loop-i.invariant.1 }
