-- `of_finite`: where b's power of two is the larger, a is its own remainder (`small`); else the remainder of the significands, times that power, is found (`found`). Assumes nothing.
use Prim.Native.Nat.{◌-◌, ◌*◌, ◌≤◌, ◌<◌, ◌^◌}
use native.Mathlib.Nat.{mod-lt}
use borrow.Author.Numbers.{in_float_lem}
use native.Mathlib.Omega.{arith}
use lib.Ieee.{binary64, to_bits}
use Rattle.numbers.specs.Bits.{exponent}
use Rattle.numbers.proofs.BitLaws.{exponent_is}
use Rattle.numbers.proofs.RemainderLaws.{finite_no_nan, significand_short, field_below, n_pos, small, found}
use Rattle.numbers.proofs.remainder.of_finite.Goals as goal

pub float_to_bits-x : goal.float_to_bits-x
float_to_bits-x c = finite_no_nan c.args.a c.requires.a_finite

pub float_to_bits-y : goal.float_to_bits-y
float_to_bits-y c = finite_no_nan c.args.b c.requires.b_finite

pub returns-then-e-d : goal.returns-then-e-d
returns-then-e-d c =
    let q = c.requires in
    let h : exponent (to_bits binary64 c.args.a) < exponent (to_bits binary64 c.args.b) = rw (← c.exponent-e.ensures, ← c.exponent-d.ensures) c.if-e-d.true in
    small c.args.a c.args.b (rw c.well_formed.0.1 tt) (rw c.well_formed.1.0.1 tt) q.a_finite q.b_finite q.b_nonzero h

pub shifted-r-requires : goal.shifted-r-requires
shifted-r-requires c =
    let q = c.requires in
    record {
      n_pos = rw c.significand-2.ensures (n_pos c.args.a c.args.b (rw c.well_formed.0.1 tt) (rw c.well_formed.1.0.1 tt) q.a_finite q.b_finite q.b_nonzero);
      n_short = rw c.significand-2.ensures (significand_short (to_bits binary64 c.args.b));
    }

pub unit-requires : goal.unit-requires
unit-requires c =
    let b = to_bits binary64 c.args.b in
    let f = field_below c.args.b (rw c.well_formed.1.0.1 tt) c.requires.b_finite in
    rw (c.exponent-d.ensures, exponent_is b) (omega arith)

pub int_to_float-result : goal.int_to_float-result
int_to_float-result c =
    let q = c.requires in
    let y = to_bits binary64 c.args.b in
    let l = significand_short y in
    let p : 0 < c.significand-2.result = rw c.significand-2.ensures (n_pos c.args.a c.args.b (rw c.well_formed.0.1 tt) (rw c.well_formed.1.0.1 tt) q.a_finite q.b_finite q.b_nonzero) in
    let m = mod-lt (c.significand.result * 2 ^ (c.exponent-e.result - c.exponent-d.result)) p in
    in_float_lem binary64 c.shifted-r.result (omega (arith, c.shifted-r.ensures, c.significand-2.ensures))

pub returns : goal.returns
returns c =
    let q = c.requires in
    let h : exponent (to_bits binary64 c.args.b) ≤ exponent (to_bits binary64 c.args.a) = rw (← c.exponent-e.ensures, ← c.exponent-d.ensures) c.if-e-d.false in
    found c.args.a c.args.b (rw c.well_formed.0.1 tt) (rw c.well_formed.1.0.1 tt) q.a_finite q.b_finite q.b_nonzero h c.shifted-r.result c.unit.result
    (rw (← c.significand.ensures, ← c.significand-2.ensures, ← c.exponent-e.ensures, ← c.exponent-d.ensures) c.shifted-r.ensures)
    (rw (← c.exponent-d.ensures) c.unit.ensures)
