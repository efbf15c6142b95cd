-- `least_squares::lm::damp` meets its contract. The invariant: the matrix is the one at entry with the first i entries of its diagonal damped (`damp_to`), and what
-- stands outside it is kept. A place of the diagonal in the scratch is one of the matrix (`entry_at`, `set_entry`); the measure is the rows to come. Assumes nothing.
use Rattle.least_squares.proofs.MemoryLaws.{kept_refl, kept_set}
use Rattle.least_squares.proofs.TableLaws.{in_rows}
use Rattle.least_squares.proofs.LmLaws.{entry_at, set_entry}
use Rattle.least_squares.specs.Lm.{damp_to}
use native.Mathlib.Omega.{arith}
use native.Mathlib.Numerals.{add-one}
use mathlib.Core.Path.{◌≡◌, refl}
use Prim.Native.Nat.{◌+◌, ◌*◌, ◌<◌}
use Rattle.least_squares.proofs.lm.damp.Goals as goal

pub loop-i-init : goal.loop-i-init
unfolding damp_to
loop-i-init c = (omega arith, kept_refl _ _ _, refl)

pub loop-i-preserved : goal.loop-i-preserved
unfolding damp_to
loop-i-preserved c =
    let s = c.loop-i.s in
    let i = c.loop-i.i in
    let a = c.args.a in
    let rows = c.args.rows in
    let h : i < rows = omega arith in
    let l = in_rows i i rows rows h h in
    (omega arith, kept_set _ s a (a + rows * rows) (a + i * rows + i) _ (omega arith) (omega arith) c.loop-i.invariant.1, rw (add-one, set_entry s a rows i i _ h h, ← entry_at s a rows i i h h, c.loop-i.invariant.2))

pub returns : goal.returns
returns c =
    let e : c.loop-i.i ≡ c.args.rows = omega arith in
    record { matrix = rw e at c.loop-i.invariant.2; kept = c.loop-i.invariant.1 }
