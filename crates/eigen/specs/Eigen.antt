-- `sym_eigen` of math.rs. Document 01, "The train of files", item 3. Definitions only.
use Rattle.std.specs.Prelude.{ℕ, zero, suc, ◌+◌, ◌-◌, ◌*◌, Bool, true, false, cond, List, [], ◌∷◌, ◌++◌, get_or, set, eqb, Float}
use Rattle.std.specs.Float.{nan, binary64}
use Rattle.std.specs.Float.Ieee.{add, sub, mul, div, neg, lt, le, eq, of_bits}
use Rattle.numbers.specs.Double.{zero64, one64, abs, fmax, signum, before}
use Rattle.numbers.specs.Ops.{doubles}
use Rattle.numbers.specs.Sum.{sum_from}
use Rattle.arcs.specs.Root.{root}
use Rattle.eigen.specs.Sort.{sort}

-- ---- Jacobi's rotations on an n by n matrix, row after row in one list

-- the matrix, and the product of the rotations
pub record Turned : Type 0 where
  pub m : List Float
  pub v : List Float

abbrev pub turned : List Float → List Float → Turned
turned m v = record { m = m; v = v }

abbrev square : Float → Float
square x = mul binary64 x x

-- the squares off the diagonal, summed from -0: row i, the first j columns; then the first i rows
unfoldable pub off_row : List Float → ℕ → ℕ → Float → ℕ → Float
off_row m n i s zero = s
off_row m n i s (suc j) = let r = off_row m n i s j in cond (eqb i j) r (add binary64 r (square (get_or m (i * n + j) nan)))

unfoldable pub off_to : List Float → ℕ → ℕ → Float
unfolding off_row
off_to m n zero = neg zero64
off_to m n (suc i) = off_row m n i (off_to m n i) n

-- the squares on the diagonal, summed from -0
unfoldable pub diag_to : List Float → ℕ → ℕ → Float
unfolding sum_from
diag_to m n i = sum_from doubles (neg zero64) (λ k. square (get_or m (k * n + k) nan)) i

-- the sweeps end where what is off the diagonal is at most 1e-30 of what is on it, itself at least 1e-300
unfoldable pub settled : List Float → ℕ → Bool
unfolding off_to diag_to
settled m n = le (off_to m n n) (mul binary64 (fmax (diag_to m n n) (of_bits binary64 0x01A5_6E1F_C2F8_F359)) (of_bits binary64 0x39B4_484B_FEEB_C2A0))

-- the tangent of the angle that clears the entry pq
unfoldable pub tangent_of : Float → Float → Float → Float
tangent_of app aqq apq =
    let theta = div binary64 (sub binary64 aqq app) (mul binary64 (of_bits binary64 0x4000_0000_0000_0000) apq) in
    cond (eq theta zero64) one64 (div binary64 (signum theta) (add binary64 (abs theta) (root (add binary64 (mul binary64 theta theta) one64))))

unfoldable pub cosine_of : Float → Float
cosine_of t = div binary64 one64 (root (add binary64 (mul binary64 t t) one64))

-- the entries at i and j turned
abbrev pub turn_pair : Float → Float → List Float → ℕ → ℕ → List Float
turn_pair c s l i j =
    let x = get_or l i nan in
    let y = get_or l j nan in
    set (set l i (sub binary64 (mul binary64 c x) (mul binary64 s y))) j (add binary64 (mul binary64 s x) (mul binary64 c y))

-- columns p and q of the first k rows; rows p and q of the first k columns
unfoldable pub turn_columns : ℕ → Float → Float → ℕ → ℕ → List Float → ℕ → List Float
turn_columns n c s p q l zero = l
turn_columns n c s p q l (suc k) = turn_pair c s (turn_columns n c s p q l k) (k * n + p) (k * n + q)

unfoldable pub turn_rows : ℕ → Float → Float → ℕ → ℕ → List Float → ℕ → List Float
turn_rows n c s p q l zero = l
turn_rows n c s p q l (suc k) = turn_pair c s (turn_rows n c s p q l k) (p * n + k) (q * n + k)

abbrev pub turned_by : ℕ → ℕ → ℕ → Turned → Float → Float → Turned
turned_by n p q w c s =
    record { m = turn_rows n c s p q (turn_columns n c s p q w.m n) n; v = turn_columns n c s p q w.v n }

-- the rotation that clears the entry pq; none where it is below 1e-300 in magnitude
unfoldable pub rotate : ℕ → ℕ → ℕ → Turned → Turned
unfolding tangent_of cosine_of turn_columns turn_rows
rotate n p q w =
    let apq = get_or w.m (p * n + q) nan in
    let t = tangent_of (get_or w.m (p * n + p) nan) (get_or w.m (q * n + q) nan) apq in
    cond (lt (abs apq) (of_bits binary64 0x01A5_6E1F_C2F8_F359)) w (turned_by n p q w (cosine_of t) (mul binary64 t (cosine_of t)))

-- the first k columns right of the diagonal in row p; then the first p rows
unfoldable pub sweep_row : ℕ → ℕ → Turned → ℕ → Turned
unfolding rotate
sweep_row n p w zero = w
sweep_row n p w (suc k) = rotate n p (p + 1 + k) (sweep_row n p w k)

unfoldable pub sweep_to : ℕ → Turned → ℕ → Turned
unfolding sweep_row
sweep_to n w zero = w
sweep_to n w (suc p) = sweep_row n p (sweep_to n w p) (n - (p + 1))

-- at most k sweeps
unfoldable pub sweeps : ℕ → ℕ → Turned → Turned
unfolding settled sweep_to
sweeps n zero w = w
sweeps n (suc k) w = elim (settled w.m n) [ true ↦ w | false ↦ sweeps n k (sweep_to n w n) ]

-- the identity, row after row: the first j entries of row i; then the first i rows
unfoldable pub unit_row : ℕ → ℕ → List Float
unit_row i zero = []
unit_row i (suc j) = unit_row i j ++ (cond (eqb i j) one64 zero64 ∷ [])

unfoldable pub unit_to : ℕ → ℕ → List Float
unfolding unit_row
unit_to n zero = []
unit_to n (suc i) = unit_to n i ++ unit_row i n

-- ---- eigenvalues with their vectors, in rising order

pub record Eigen : Type 0 where
  pub value : Float
  pub vector : List Float

-- the first k entries of column i
unfoldable pub column : ℕ → List Float → ℕ → ℕ → List Float
column n v i zero = []
column n v i (suc k) = column n v i k ++ (get_or v (k * n + i) nan ∷ [])

-- the first i pairs
unfoldable pub pairs : ℕ → Turned → ℕ → List Eigen
unfolding column
pairs n w zero = []
pairs n w (suc i) = pairs n w i ++ (record { value = get_or w.m (i * n + i) nan; vector = column n w.v i n } ∷ [])

abbrev pub lower : Eigen → Eigen → Bool
lower a b = before a.value b.value

-- the eigenvalues and unit vectors of the symmetric n by n matrix a
unfoldable pub sym_eigen : ℕ → List Float → List Eigen
unfolding pairs sweeps unit_to
sym_eigen n a = sort lower (pairs n (sweeps n 100 (turned a (unit_to n n))) n)
