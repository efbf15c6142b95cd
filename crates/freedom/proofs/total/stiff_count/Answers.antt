-- `freedom::total::stiff_count` meets its contract. The loop's invariant: those counted and those to come are all. Assumes nothing.
use Rattle.freedom.proofs.TotalLaws.{stiff_step, stiff_done, stiff_small}
use mathlib.Core.Path.{◌≡◌}
use native.Mathlib.Omega.{arith}
use lib.ListN.{length, get_or}
use lib.Ieee.{nan}
use Rattle.freedom.proofs.total.stiff_count.Goals as goal

pub loop-v-init : goal.loop-v-init
loop-v-init c = (omega arith, omega arith, omega arith)

pub overflow_add-count : goal.overflow_add-count
overflow_add-count c = omega (arith, c.stiff_one-count.ensures, stiff_small c.args.most (get_or c.args.vals.now c.loop-v.v-index nan))

pub loop-v-preserved : goal.loop-v-preserved
loop-v-preserved c =
    let l = c.loop-v in
    let a = c.args in
    let e = c.stiff_one-count.ensures in
    let small = stiff_small a.most (get_or a.vals.now l.v-index nan) in
    let next = stiff_step a.most a.vals.now l.v-index (omega arith) in
    (omega arith, omega arith, omega arith)

pub returns : goal.returns
returns c =
    let l = c.loop-v in
    let a = c.args in
    let e : l.v-index ≡ length a.vals.now = omega arith in
    omega (arith, stiff_done a.most a.vals.now l.v-index e)
