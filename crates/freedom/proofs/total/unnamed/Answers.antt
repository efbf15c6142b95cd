-- `freedom::total::unnamed` meets its contract. The loop's invariant: those counted and those to come are all. Assumes nothing.
use Rattle.freedom.proofs.TotalLaws.{unnamed_step, unnamed_done, unnamed_small}
use mathlib.Core.Path.{◌≡◌, ap}
use native.Mathlib.Omega.{arith}
use lib.ListN.{get_or}
use Rattle.relations.specs.Model.{Body}
use Rattle.std.specs.Prelude.{None}
use Rattle.scene.specs.Scene.{first_unknown}
use Rattle.freedom.specs.Total.{unnamed_one}
use Rattle.freedom.proofs.total.unnamed.Goals as goal

pub loop-i-init : goal.loop-i-init
loop-i-init c = (omega arith, omega arith, omega arith)

pub overflow_add-count : goal.overflow_add-count
overflow_add-count c =
    let g = c.args in
    let l = c.loop-i in
    let e = c.unnamed_one-count.ensures in
    let small = unnamed_small c.body-b.result.fixed (first_unknown (get_or g.sheet.scene.index l.i None)) in
    let b = c.args.sheet.laid.body_count in
    omega arith

pub loop-i-preserved : goal.loop-i-preserved
loop-i-preserved c =
    let g = c.args in
    let l = c.loop-i in
    let e = c.unnamed_one-count.ensures in
    let small = unnamed_small c.body-b.result.fixed (first_unknown (get_or g.sheet.scene.index l.i None)) in
    let next = unnamed_step g.sheet.bytes.now g.sheet.scene l.i c.args.sheet.laid (omega arith) in
    let f = ap (λ (b : Body). unnamed_one b.fixed (first_unknown (get_or g.sheet.scene.index l.i None))) c.body-b.ensures in
    (omega arith, omega arith, omega arith)

pub returns : goal.returns
returns c =
    let l = c.loop-i in
    let g = c.args in
    let e : l.i ≡ g.sheet.scene.m = omega arith in
    let done = unnamed_done g.sheet.bytes.now g.sheet.scene l.i e in
    let b = c.args.sheet.laid.body_count in
    (omega arith, omega arith)
