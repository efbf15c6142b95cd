-- lm.rs: the damped, weighted least-norm steps that bring the rows of a function f of the unknowns to 0. Document 01, "The train of files", item 5. A matrix is the
-- list of its rows laid end to end. Every unknown is free, so Rust's `free` is all of them. `max_abs` is `max_abs` of the crate numbers, and a sum its
-- `sum_from`. Definitions only; `rank` is left out.
use Rattle.std.specs.Prelude.{ℕ, zero, suc, ◌+◌, ◌-◌, ◌*◌, min, max, Bool, true, false, ◌&&◌, ◌||◌, cond, List, [], ◌∷◌, ◌++◌, length, get_or, set, eqb, ltb, Float}
use Rattle.std.proofs.Math.Option.{Option, none, some}
use Rattle.std.specs.Float.{nan, binary64}
use Rattle.std.specs.Float.Ieee.{add, sub, mul, div, neg, lt, le, eq, of_bits}
use Rattle.numbers.specs.Double.{zero64, one64, abs, fmax, is_finite}
use Rattle.numbers.specs.Ops.{doubles}
use Rattle.numbers.specs.Sum.{sum_from}
use Rattle.numbers.specs.MaxAbs.{max_abs}

-- the entries f 0, f 1, .. of a list of the length n; and of a matrix of so many rows and columns, row after row
unfoldable pub list_of : {A : Type 0} → (ℕ → A) → ℕ → List A
list_of f zero = []
list_of f (suc n) = list_of f n ++ (f n ∷ [])

unfoldable pub table_of : {A : Type 0} → (ℕ → ℕ → A) → ℕ → ℕ → List A
unfolding list_of
table_of f cols zero = []
table_of f cols (suc rows) = table_of f cols rows ++ list_of (f rows) cols

-- the squares, summed from -0
unfoldable pub norm2 : List Float → Float
unfolding sum_from
norm2 v = sum_from doubles (neg zero64) (λ i. mul binary64 (get_or v i nan) (get_or v i nan)) (length v)

-- ---- slopes

-- 1e-7 of the unknown's magnitude, itself at least 1
unfoldable pub step_of : Float → Float
step_of x = mul binary64 (of_bits binary64 0x3E7A_D7F2_9ABC_AF48) (fmax (abs x) one64)

-- a slope that is not finite counts as 0
abbrev pub slope_of : Float → Float → Float → Float
slope_of plus minus h =
    let d = div binary64 (sub binary64 plus minus) (mul binary64 (of_bits binary64 0x4000_0000_0000_0000) h) in
    cond (is_finite d) d zero64

-- the unknowns with the unknown j a step h further, and a step back
abbrev pub ahead : List Float → ℕ → Float → List Float
ahead x j h = set x j (add binary64 (get_or x j nan) h)

abbrev pub behind : List Float → ℕ → Float → List Float
behind x j h = set x j (sub binary64 (get_or x j nan) h)

-- the slope of row i along the unknown j
unfoldable pub slope : (List Float → List Float) → List Float → ℕ → ℕ → Float
slope f x i j =
    let h = step_of (get_or x j nan) in
    slope_of (get_or (f (ahead x j h)) i nan) (get_or (f (behind x j h)) i nan) h

-- `jacobian`
unfoldable pub jacobian : (List Float → List Float) → List Float → ℕ → List Float
jacobian f x rows = table_of (slope f x) (length x) rows

-- ---- `solve_dense`: elimination with partial pivoting on an n by n matrix a and the right side b

pub record System : Type 0 where
  pub a : List Float
  pub b : List Float

-- the largest magnitude, at least 1e-300
unfoldable pub largest_to : List Float → ℕ → Float
largest_to a zero = zero64
largest_to a (suc k) = fmax (largest_to a k) (abs (get_or a k nan))

abbrev pub scale_of : List Float → Float
scale_of a = fmax (largest_to a (length a)) (of_bits binary64 0x01A5_6E1F_C2F8_F359)

pub record Pivot : Type 0 where
  pub best : Float
  pub row : ℕ

-- the first row with the largest magnitude in column col, among the first k from row col on
unfoldable pub pivot_to : List Float → ℕ → ℕ → ℕ → Pivot
pivot_to a n col zero = record { best = zero64; row = col }
pivot_to a n col (suc k) =
    let p = pivot_to a n col k in
    let v = abs (get_or a ((col + k) * n + col) nan) in
    cond (lt p.best v) (record { best = v; row = col + k }) p

-- two entries exchanged
abbrev pub exchange : List Float → ℕ → ℕ → List Float
exchange l i j = set (set l i (get_or l j nan)) j (get_or l i nan)

-- the first k entries of two rows exchanged
unfoldable pub swap_to : List Float → ℕ → ℕ → ℕ → ℕ → List Float
swap_to a n p col zero = a
swap_to a n p col (suc k) = exchange (swap_to a n p col k) (p * n + k) (col * n + k)

unfoldable pub pivoted : System → ℕ → ℕ → ℕ → System
pivoted s n p col = cond (eqb p col) s (record { a = swap_to s.a n p col n; b = exchange s.b p col })

-- f times row col taken off row r, in the first k columns from col on
unfoldable pub take_off_to : List Float → ℕ → ℕ → ℕ → Float → ℕ → List Float
take_off_to a n r col f zero = a
take_off_to a n r col f (suc k) =
    let l = take_off_to a n r col f k in
    set l (r * n + (col + k)) (sub binary64 (get_or l (r * n + (col + k)) nan) (mul binary64 f (get_or l (col * n + (col + k)) nan)))

unfoldable pub clear_row : System → ℕ → ℕ → ℕ → System
clear_row s n r col =
    let f = div binary64 (get_or s.a (r * n + col) nan) (get_or s.a (col * n + col) nan) in
    cond (eq f zero64) s
    (record { a = take_off_to s.a n r col f (n - col); b = set s.b r (sub binary64 (get_or s.b r nan) (mul binary64 f (get_or s.b col nan))) })

-- the first k rows below row col
unfoldable pub clear_to : System → ℕ → ℕ → ℕ → System
clear_to s n col zero = s
clear_to s n col (suc k) = clear_row (clear_to s n col k) n (col + 1 + k) col

-- column col: none where the pivot is at most 1e-15 of the scale
unfoldable pub clear_column : Float → ℕ → ℕ → System → Option System
clear_column scale n col s =
    let p = pivot_to s.a n col (n - col) in
    cond (le p.best (mul binary64 scale (of_bits binary64 0x3CD2_03AF_9EE7_5616))) none (some (clear_to (pivoted s n p.row col) n col (n - (col + 1))))

abbrev pub and_then : {A B : Type 0} → Option A → (A → Option B) → Option B
and_then none f = none
and_then (some a) f = f a

-- the first k columns
unfoldable pub eliminate_to : System → Float → ℕ → ℕ → Option System
eliminate_to s scale n zero = some s
eliminate_to s scale n (suc k) = and_then (eliminate_to s scale n k) (clear_column scale n k)

-- the right side of row r less its first k entries right of the diagonal times the unknowns found so far
unfoldable pub rest_to : System → ℕ → ℕ → ℕ → Float
rest_to s n r zero = get_or s.b r nan
rest_to s n r (suc k) = sub binary64 (rest_to s n r k) (mul binary64 (get_or s.a (r * n + (r + 1 + k)) nan) (get_or s.b (r + 1 + k) nan))

-- the last k unknowns, from the last up; each takes the place of its right side
unfoldable pub back_to : System → ℕ → ℕ → System
back_to s n zero = s
back_to s n (suc k) =
    let w = back_to s n k in
    let r = n - suc k in
    record { a = w.a; b = set w.b r (div binary64 (rest_to w n r (n - (r + 1))) (get_or w.a (r * n + r) nan)) }

unfoldable pub all_finite : List Float → Bool
all_finite [] = true
all_finite (x ∷ l) = is_finite x && all_finite l

-- the answer, where every number of it is finite
unfoldable pub answer_of : ℕ → System → Option (List Float)
answer_of n s = let y = (back_to s n n).b in cond (all_finite y) (some y) none

unfoldable pub solve_dense : List Float → List Float → ℕ → Option (List Float)
solve_dense a b n = and_then (eliminate_to (record { a = a; b = b }) (scale_of a) n n) (answer_of n)

-- ---- the matrix, the damping and the step

-- row i times row k of the slopes, weighted, summed from +0
unfoldable pub gram : List Float → List Float → ℕ → ℕ → ℕ → Float
gram jac winv n i k = sum_from doubles zero64 (λ c. mul binary64 (mul binary64 (get_or jac (i * n + c) nan) (get_or jac (k * n + c) nan)) (get_or winv c nan)) n

-- the same in memory: n doubles from i on, from k on and from w on
unfoldable pub gram_at : List Float → ℕ → ℕ → ℕ → ℕ → Float
gram_at s i k w n = sum_from doubles zero64 (λ c. mul binary64 (mul binary64 (get_or s (i + c) nan) (get_or s (k + c) nan)) (get_or s (w + c) nan)) n

-- J W⁻¹ Jᵀ, the same on both sides of its diagonal
abbrev pub normal_at : List Float → List Float → ℕ → ℕ → ℕ → Float
normal_at jac winv n i k = gram jac winv n (min i k) (max i k)

unfoldable pub normal : List Float → List Float → ℕ → ℕ → List Float
normal jac winv n rows = table_of (normal_at jac winv n) rows rows

-- the largest entry of the diagonal, at least 1e-12
unfoldable pub diag_to : List Float → ℕ → ℕ → Float
diag_to a rows zero = zero64
diag_to a rows (suc i) = fmax (diag_to a rows i) (get_or a (i * rows + i) nan)

abbrev pub diag_max : List Float → ℕ → Float
diag_max a rows = fmax (diag_to a rows rows) (of_bits binary64 0x3D71_9799_812D_EA11)

-- d added to the first i entries of the diagonal
unfoldable pub damp_to : List Float → ℕ → Float → ℕ → List Float
damp_to a rows d zero = a
damp_to a rows d (suc i) = let l = damp_to a rows d i in set l (i * rows + i) (add binary64 (get_or l (i * rows + i) nan) d)

-- the unknown c after the step that y gives
unfoldable pub stepped_at : List Float → List Float → List Float → List Float → ℕ → ℕ → Float
stepped_at x jac winv y rows c =
    sub binary64 (get_or x c nan) (mul binary64 (get_or winv c nan) (sum_from doubles zero64 (λ i. mul binary64 (get_or jac (i * length x + c) nan) (get_or y i nan)) rows))

unfoldable pub stepped : List Float → List Float → List Float → List Float → ℕ → List Float
stepped x jac winv y rows = list_of (stepped_at x jac winv y rows) (length x)

-- 1 over each weight, itself at least 1e-12
abbrev pub inverse_weight : Float → Float
inverse_weight w = div binary64 one64 (fmax w (of_bits binary64 0x3D71_9799_812D_EA11))

-- ---- rounds

-- the unknowns, their rows, the sum of the rows' squares, the damping
pub record State : Type 0 where
  pub x : List Float
  pub r : List Float
  pub cost : Float
  pub mu : Float

-- a state, and whether it is better than the one before
pub record Tried : Type 0 where
  pub state : State
  pub better : Bool

-- ten times the damping
abbrev pub stiffer : State → Tried
stiffer s = record { state = record { x = s.x; r = s.r; cost = s.cost; mu = mul binary64 s.mu (of_bits binary64 0x4024_0000_0000_0000) }; better = false }

-- a tenth of the damping, not below 1e-15
abbrev pub softer : Float → Float
softer mu = fmax (mul binary64 mu (of_bits binary64 0x3FB9_9999_9999_999A)) (of_bits binary64 0x3CD2_03AF_9EE7_5616)

-- a step is kept where the sum of squares is finite and smaller
unfoldable pub judged : State → List Float → List Float → Tried
judged s xn rn =
    let cn = norm2 rn in
    cond (is_finite cn && lt cn s.cost) (record { state = record { x = xn; r = rn; cost = cn; mu = softer s.mu }; better = true }) (stiffer s)

-- how a run ends: the unknowns, whether their rows are all within the tolerance, and how many rounds it took
pub record Outcome : Type 0 where
  pub x : List Float
  pub converged : Bool
  pub rounds : ℕ

module _ (f : List Float → List Float) (winv : List Float) where
  -- the step from an answer of `solve_dense`; none stiffens
  unfoldable pub step_with : List Float → ℕ → State → Option (List Float) → Tried
  step_with jac rows s none = stiffer s
  step_with jac rows s (some y) = let xn = stepped s.x jac winv y rows in judged s xn (f xn)

  unfoldable pub trial : List Float → List Float → ℕ → State → Tried
  trial jac a rows s = step_with jac rows s (solve_dense (damp_to a rows (mul binary64 s.mu (diag_max a rows)) rows) s.r rows)

  -- at most k trials, up to the first that is better
  unfoldable pub trials : List Float → List Float → ℕ → ℕ → State → Tried
  trials jac a rows zero s = record { state = s; better = false }
  trials jac a rows (suc k) s =
      let t = trial jac a rows s in
      elim t.better [ true ↦ t | false ↦ trials jac a rows k t.state ]

  -- the slopes, the matrix, and at most 12 trials
  unfoldable pub one_round : State → Tried
  one_round s =
      let rows = length s.r in
      let jac = jacobian f s.x rows in
      trials jac (normal jac winv (length s.x) rows) rows 12 s

module _ (f : List Float → List Float) (winv : List Float) (tol : Float) where
  -- At most k rounds, after `done` ones. A run ends where its rows are within the tolerance, or a round brings nothing better.
  unfoldable pub rounds : ℕ → ℕ → State → Outcome
  rounds zero done s = record { x = s.x; converged = le (max_abs s.r) tol; rounds = done }
  rounds (suc k) done s =
      let t = one_round f winv s in
      let w = t.state in
      elim (le (max_abs w.r) tol) [
        | true ↦ record { x = w.x; converged = true; rounds = suc done }
        | false ↦
            elim t.better [
              | true ↦ rounds k (suc done) w
              | false ↦ record { x = w.x; converged = false; rounds = suc done }
            ]
      ]

  -- `solve`: at most `most` rounds from x, with the damping 1e-10 at first; over `limit` rows there is none
  unfoldable pub run : ℕ → ℕ → List Float → Outcome
  run most limit x =
      let r = f x in
      elim (eqb (length r) 0 || le (max_abs r) tol) [
        | true ↦ record { x = x; converged = true; rounds = 0 }
        | false ↦
            elim (eqb (length x) 0 || ltb limit (length r)) [
              | true ↦ record { x = x; converged = false; rounds = 0 }
              | false ↦ rounds most 0 (record { x = x; r = r; cost = norm2 r; mu = of_bits binary64 0x3DDB_7CDF_D9D7_BDBB })
            ]
      ]
