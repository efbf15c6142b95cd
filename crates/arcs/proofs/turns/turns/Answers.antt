-- `arcs::turns::turns` meets its contract: k turns fit into the angle, and k + room do not. Assumes nothing.
use Prim.Native.Nat.{ℕ, suc, ◌+◌, ◌-◌, ◌*◌, ◌/◌, ◌^◌, ◌≤◌, ◌<◌}
use mathlib.Core.Path.{◌≡◌, sym, ◌∙◌}
use mathlib.Core.Bool.{true, false}
use lib.Dec.{leb}
use native.Mathlib.Omega.{arith}
use borrow.Author.Tests.{leb-true, leb-false}
use Rattle.arcs.specs.TurnSteps.{Room, turn}
use Rattle.arcs.proofs.TurnLaws.{turns_is}
use Rattle.arcs.proofs.turns.turns.Goals as goal

module _ (v k room : ℕ) (h : Room v k room) (more : 1 < room) where
  upper : leb ((k + room / 2) * turn) v ≡ true → Room v (k + room / 2) (room - room / 2)
  upper t = let l = leb-true ((k + room / 2) * turn) v t in record { fit = l; over = omega (arith, h.over); top = omega (arith, h.top); some = omega arith }

  lower : leb ((k + room / 2) * turn) v ≡ false → Room v k (room / 2)
  lower t = let l = leb-false ((k + room / 2) * turn) v t in record { fit = h.fit; over = l; top = omega (arith, h.top); some = omega arith }

word : (k room : ℕ) → k + room ≤ 2 ^ 18 → k + room / 2 < 2 ^ 64
word k room h = omega arith

smaller : (room : ℕ) → 1 < room → room - room / 2 < room
smaller room h = omega arith

half : (room : ℕ) → 1 < room → room / 2 < room
half room h = omega arith

inside : (k room : ℕ) → k + room ≤ 2 ^ 18 → 1 < room → k + room / 2 < 2 ^ 18
inside k room h l = omega arith

-- one left
found : (v k room : ℕ) → Room v k room → room ≤ 1 → (v < suc k * turn) × (k < 2 ^ 18)
found v k room h l =
    let e : k + room ≡ suc k = omega (arith, h.some) in
    (rw e at h.over, rw e at h.top)

pub opened-a-requires : goal.opened-a-requires
opened-a-requires c = c.requires

pub around-c-requires : goal.around-c-requires
around-c-requires c = (c.opened-a.ensures.top, c.opened-a.ensures.bottom)

pub loop-room-init : goal.loop-room-init
loop-room-init c = c.around-c.ensures

pub fits-requires : goal.fits-requires
fits-requires c = (inside _ _ c.loop-room.invariant.top c.loop-room-test.true, c.opened-a.ensures.bottom)

pub loop-room-smaller-then-fits : goal.loop-room-smaller-then-fits
loop-room-smaller-then-fits c = smaller _ c.loop-room-test.true

pub loop-room-preserved-then-fits : goal.loop-room-preserved-then-fits
loop-room-preserved-then-fits c = upper _ _ _ c.loop-room.invariant c.loop-room-test.true (sym c.fits.ensures ∙ c.if-fits.true)

pub loop-room-smaller : goal.loop-room-smaller
loop-room-smaller c = half _ c.loop-room-test.true

pub loop-room-preserved : goal.loop-room-preserved
loop-room-preserved c = lower _ _ _ c.loop-room.invariant c.loop-room-test.true (sym c.fits.ensures ∙ c.if-fits.false)

pub returns : goal.returns
returns c =
    let i = c.loop-room.invariant in
    let f = found _ _ _ i c.loop-room-test.false in
    (turns_is c.args.t _ c.opened-a.ensures.value _ i.fit f.0, f.1)
