-- `arcs::root::whole_root` meets its contract. The invariant: of m * 2 ^ 52, written with 53 digits of base 4, the first i are q * q + rem, with q the whole part of their root,
-- and the others are `rest`, at the top of a word. After 53 turns q * q + rem is m * 2 ^ 52, and rem against q decides the rounding. Assumes nothing.
use Prim.Native.Nat.{ℕ, ◌+◌, ◌*◌, ◌^◌, ◌≤◌, ◌<◌}
use mathlib.Core.Path.{◌≡◌}
use Rattle.arcs.proofs.root.whole_root.Given as goal

pub record Turn (m q rem rest i : ℕ) : Type 0 where
  pub sum : (q * q + rem) * 2 ^ 64 + rest ≡ m * 0x400 * 4 ^ i
  pub left : rem ≤ 2 * q
  pub digits : q < 2 ^ i
  pub small : q < 2 ^ 53
  pub word : rest < 2 ^ 64
  pub turns : i ≤ 53

abbrev pub invariant-loop : goal.invariant-loop
invariant-loop l = Turn l.m l.q l.rem l.rest l.counter
