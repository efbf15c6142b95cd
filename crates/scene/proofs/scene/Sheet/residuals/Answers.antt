-- `scene::scene::Sheet::residuals` meets its contract. The invariant: the rows of the relations passed stand from r up to `at`, and with those to come they are all
-- of them. The measure is the relations to come. Assumes nothing.
use mathlib.Core.Path.{◌≡◌}
use Prim.Native.Nat.{◌-◌}
use native.Mathlib.Omega.{arith}
use Rattle.scene.proofs.SceneLaws.{growing_from, rows_room, rows_step, rows_done, put_all}
use Rattle.scene.proofs.scene.Sheet.residuals.Goals as goal

pub loop-j-init : goal.loop-j-init
loop-j-init c = (omega arith, omega arith, omega arith, growing_from _ _ _)

pub put_relation-at-requires : goal.put_relation-at-requires
put_relation-at-requires c =
    let g = c.args in
    let l = c.loop-j in
    let z = l.invariant.3.kept.size in
    let room = rows_room g.self.bytes.now g.self.scene g.s.now l.s g.p g.r l.at l.j c.args.self.laid (omega arith) l.invariant.1 l.invariant.2 (omega arith) l.invariant.3 (omega arith) in
    record { j_lt_k = omega arith; j_bound = room; m_in_bounds = omega arith }

pub loop-j-preserved : goal.loop-j-preserved
loop-j-preserved c =
    let g = c.args in
    let l = c.loop-j in
    let z = l.invariant.3.kept.size in
    let room = rows_room g.self.bytes.now g.self.scene g.s.now l.s g.p g.r l.at l.j c.args.self.laid (omega arith) l.invariant.1 l.invariant.2 (omega arith) l.invariant.3 (omega arith) in
    let y = c.put_relation-at.ensures in
    let n = y.next in (
      omega arith,
      omega arith,
      omega arith,
      rows_step g.self.bytes.now g.self.scene g.s.now l.s g.p g.r l.at l.j c.args.self.laid (omega arith) l.invariant.1 l.invariant.2 (omega arith) l.invariant.3 _ _ y,
    )

pub shape_of-s : goal.shape_of-s
shape_of-s c = c.loop-j.invariant.3.kept.size

pub returns : goal.returns
returns c =
    let g = c.args in
    let l = c.loop-j in
    let e : l.j ≡ g.self.scene.k = omega arith in
    put_all _ _ g.r (l.at - g.r) g.self.scene.rows _ _ (omega arith) (rows_done g.self.bytes.now g.self.scene _ l.j e) (c.args.self.laid.row_count _) l.invariant.3
