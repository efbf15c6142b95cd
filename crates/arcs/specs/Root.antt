-- The square root of a double, as IEEE 754 has it: the nearest double, ties to even. Document 01, "The train of files", item 1.
-- `CorrectRoot x r` says that r is that root, by what makes it so; `root x` computes it. proofs/RootLaws.antt shows that the two agree. Definitions only.
use Rattle.std.specs.Prelude.{ℕ, zero, suc, ◌+◌, ◌-◌, ◌*◌, ◌/◌, ◌^◌, ◌<◌, ◌≡◌, Bool, true, false, not, cond, T, leb, Float}
use Rattle.std.specs.Float.{nan, inf, fin, binary64}
use Rattle.std.specs.Float.Ieee.{up, down, size, units, lt, fits}
use Rattle.std.specs.Float.Ieee.Positive.{num, den, positive}

-- ---- what the root of x is

-- the finite doubles from +0 up
abbrev pub from_zero : Float → Bool
from_zero nan = false
from_zero (inf s) = false
from_zero (fin s m e) = not s

-- x lies below, or above, the square of the midpoint of r and y: 4 * x < (r + y)², or (r + y)² < 4 * x. Each of the three is a fraction `num` / `den`, and the
-- denominators are multiplied out.
abbrev pub BelowMidpoint : Float → Float → Float → Type 0
BelowMidpoint x r y = 4 * num x * (den r * den y * (den r * den y)) < (num r * den y + num y * den r) * (num r * den y + num y * den r) * den x

abbrev pub AboveMidpoint : Float → Float → Float → Type 0
AboveMidpoint x r y = (num r * den y + num y * den r) * (num r * den y + num y * den r) * den x < 4 * num x * (den r * den y * (den r * den y))

-- For a finite x above 0: r is nearer to the true root √x than every other double y is. On the line, √x is nearer to r than to y just where it lies on r's side of
-- their midpoint (r + y) / 2, and it does just where x lies on that side of the midpoint's square. Both orders are strict, so √x is never halfway between two
-- doubles, and the rule for ties has no case to decide. A y below +0 is farther from √x than +0 is.
pub record NearestRoot (x r : Float) : Type 0 where
  pub above : T (positive r)
  pub upward : (y : Float) → T (fits binary64 y) → T (from_zero y) → T (lt r y) → BelowMidpoint x r y
  pub downward : (y : Float) → T (fits binary64 y) → T (from_zero y) → T (lt y r) → AboveMidpoint x r y

-- NaN gives NaN, a zero itself with its sign, a number below 0 or -infinity NaN, +infinity +infinity
abbrev pub RootCase : Float → Float → Type 0
RootCase nan r = r ≡ nan
RootCase (inf true) r = r ≡ nan
RootCase (inf false) r = r ≡ inf false
RootCase (fin s zero e) r = r ≡ fin s zero e
RootCase (fin true (suc m) e) r = r ≡ nan
RootCase (fin false (suc m) e) r = NearestRoot (fin false (suc m) e) r

-- r is a double, and the root of x
pub record CorrectRoot (x r : Float) : Type 0 where
  pub double : T (fits binary64 r)
  pub value : RootCase x r

-- ---- the root of x, computed

-- the whole part of √n, for n below 4 ^ d, a binary digit at a time
unfoldable pub isqrt : ℕ → ℕ → ℕ
isqrt zero n = 0
isqrt (suc d) n = let q = 2 * isqrt d (n / 4) in cond (leb ((q + 1) * (q + 1)) n) (q + 1) q

-- the whole number nearest to √n, for n below 4 ^ 53: half of the whole part of √(4 * n), rounded up. No √n is halfway between two whole numbers.
unfoldable pub nearest_whole : ℕ → ℕ
unfolding isqrt
nearest_whole n = (isqrt 54 (4 * n) + 1) / 2

-- x is n / 4 ^ 1074, so √x is √n of the smallest doubles above 0, which are 2 ^ -1074. √n has (size n + 1) / 2 binary digits before the point. A double keeps 53
-- and drops k. (n is a multiple of 4 ^ k.)
unfoldable pub root : Float → Float
unfolding nearest_whole size units
root nan = nan
root (inf true) = nan
root (inf false) = inf false
root (fin s zero e) = fin s zero e
root (fin true (suc m) e) = nan
root (fin false (suc m) e) =
    let n = suc m * up e * 4 ^ 1074 / down e in
    let k = (size n + 1) / 2 - 53 in
    units binary64 false (nearest_whole (n / 4 ^ k)) k
