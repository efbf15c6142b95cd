-- The second root of second.rt, operation by operation, each rounded once. Nothing is proved of how near to the root it is: the program compares the two.
-- Definitions only.
use Rattle.std.specs.Prelude.{cond, from_bits, Float}
use Rattle.std.specs.Float.{binary64}
use Rattle.std.specs.Float.Ieee.{add, sub, mul, div, neg, lt, le, eq}
use Rattle.numbers.specs.Double.{zero64, one64}
use Rattle.roots.specs.declared.second.Scaled.{Scaled}

-- A large a by w^2 smaller, a small a by w^2 larger.
unfoldable pub lowered : Scaled → Float → Scaled
lowered v w =
    let w2 = mul binary64 w w in
    cond (le w2 v.a) (record { a = div binary64 v.a w2; s = mul binary64 v.s w }) v

unfoldable pub raised : Scaled → Float → Scaled
raised v w =
    let w2 = mul binary64 w w in
    cond (lt (mul binary64 v.a w2) (from_bits binary64 0x4010_0000_0000_0000))
    (record { a = mul binary64 v.a w2; s = div binary64 v.s w }) v

-- 2^256, 2^128, 2^64, 2^32, 2^16, 2^8, 2^4, 2^2, 2
abbrev pub w256 : Float
w256 = from_bits binary64 0x4FF0_0000_0000_0000

abbrev pub w128 : Float
w128 = from_bits binary64 0x47F0_0000_0000_0000

abbrev pub w64 : Float
w64 = from_bits binary64 0x43F0_0000_0000_0000

abbrev pub w32 : Float
w32 = from_bits binary64 0x41F0_0000_0000_0000

abbrev pub w16 : Float
w16 = from_bits binary64 0x40F0_0000_0000_0000

abbrev pub w8 : Float
w8 = from_bits binary64 0x4070_0000_0000_0000

abbrev pub w4 : Float
w4 = from_bits binary64 0x4030_0000_0000_0000

abbrev pub w2 : Float
w2 = from_bits binary64 0x4010_0000_0000_0000

abbrev pub w1 : Float
w1 = from_bits binary64 0x4000_0000_0000_0000

-- x with a from 1 up to 4
unfoldable pub lowest : Float → Scaled
lowest x =
    lowered (lowered (lowered (lowered (lowered (lowered (lowered (lowered (lowered
    (record { a = x; s = one64 }) w256) w128) w64) w32) w16) w8) w4) w2) w1

unfoldable pub into_range : Float → Scaled
into_range x =
    raised (raised (raised (raised (raised (raised (raised (raised (raised (raised
    (lowest x) w256) w256) w128) w64) w32) w16) w8) w4) w2) w1

-- one turn of Heron's rule
abbrev pub heron : Float → Float → Float
heron a r = mul binary64 (add binary64 r (div binary64 a r)) (from_bits binary64 0x3FE0_0000_0000_0000)

-- 2^-52, the distance of the doubles from 1 to 2
abbrev pub step : Float
step = from_bits binary64 0x3CB0_0000_0000_0000

-- a less r * r, which is p + e exactly, each part of r having 26 digits
unfoldable pub left : Float → Float → Float
left a r =
    let c = mul binary64 r (from_bits binary64 0x41A0_0000_0200_0000) in
    let high = sub binary64 c (sub binary64 c r) in
    let low = sub binary64 r high in
    let p = mul binary64 r r in
    let twice = mul binary64 (mul binary64 w1 high) low in
    let e = add binary64 (add binary64 (sub binary64 (mul binary64 high high) p) twice) (mul binary64 low low) in
    sub binary64 (sub binary64 a p) e

-- r or its neighbour, whichever is nearer to the root of a, for an r from 1 to 2
unfoldable pub corrected : Float → Float → Float
corrected a r =
    let d = left a r in
    let most = mul binary64 r step in
    cond (lt most d) (add binary64 r step) (cond (le d (neg most)) (sub binary64 r step) r)

unfoldable pub above_zero : Float → Float
above_zero x =
    let v = into_range x in
    let a = v.a in
    let r = heron a (heron a (heron a (heron a (heron a (heron a (from_bits binary64 0x3FF8_0000_0000_0000)))))) in
    mul binary64 (corrected a (corrected a r)) v.s

-- a zero and +infinity are their own roots; below zero, and of a NaN, there is none
unfoldable pub second_root : Float → Float
second_root x =
    cond (eq x zero64) x
    (cond (eq x (div binary64 one64 zero64)) x
    (cond (lt zero64 x) (above_zero x) (div binary64 zero64 zero64)))
