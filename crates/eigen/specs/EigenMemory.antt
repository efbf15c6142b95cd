-- How `sym_eigen` of math.rs keeps its pairs and sorts them on lent memory: the values in one list, each one's vector in a column of an n by n matrix.
-- Document 01, "The train of files", item 3. Definitions only.
use Rattle.std.specs.Prelude.{ℕ, zero, suc, ◌+◌, ◌*◌, ◌≤◌, ◌≡◌, true, false, List, [], ◌∷◌, ◌++◌, map, length, get_or, set, Float}
use Rattle.std.specs.Float.{nan}
use Rattle.numbers.specs.Double.{before}
use Rattle.eigen.specs.Eigen.{Eigen, turned, sweeps, unit_to, column, sym_eigen}

-- v has the first rows of an n by n matrix, so many: all n of the vectors, or none where the values alone are asked for
pub record Rows (n rows : ℕ) (v : List Float) : Type 0 where
  pub size : length v ≡ rows * n
  pub within : rows ≤ n

-- the first i columns
unfoldable pub columns : ℕ → List Float → ℕ → List (List Float)
unfolding column
columns n v zero = []
columns n v (suc i) = columns n v i ++ (column n v i n ∷ [])

-- what `sym_eigen` leaves of the matrix a: the turned matrix, the vectors in the columns of v, the values in vals; every place of the three is fixed
pub record SymEigen (n : ℕ) (a m v vals : List Float) : Type 0 where
  pub matrix : m ≡ (sweeps n 100 (turned a (unit_to n n))).m
  pub values : vals ≡ map (λ (e : Eigen). e.value) (sym_eigen n a)
  pub vectors : columns n v n ≡ map (λ (e : Eigen). e.vector) (sym_eigen n a)

-- ---- the sort, swap by swap

-- the first k entries of the diagonal
unfoldable pub diagonal : List Float → ℕ → ℕ → List Float
diagonal m n zero = []
diagonal m n (suc i) = diagonal m n i ++ (get_or m (i * n + i) nan ∷ [])

pub record Held : Type 0 where
  pub vals : List Float
  pub v : List Float

abbrev pub held : List Float → List Float → Held
held vals v = record { vals = vals; v = v }

-- the i-th value with its column; the first k of these pairs
abbrev pub pair_at : ℕ → Held → ℕ → Eigen
pair_at n w i = record { value = get_or w.vals i nan; vector = column n w.v i n }

unfoldable pub held_pairs : ℕ → Held → ℕ → List Eigen
unfolding column
held_pairs n w zero = []
held_pairs n w (suc k) = held_pairs n w k ++ (pair_at n w k ∷ [])

-- the entries at i and j change places
abbrev pub swap_pair : List Float → ℕ → ℕ → List Float
swap_pair l i j = set (set l i (get_or l j nan)) j (get_or l i nan)

-- columns i and j of the first k rows change places
unfoldable pub swap_columns : ℕ → ℕ → ℕ → List Float → ℕ → List Float
swap_columns n i j l zero = l
swap_columns n i j l (suc k) = swap_pair (swap_columns n i j l k) (k * n + i) (k * n + j)

abbrev pub swapped : ℕ → ℕ → ℕ → Held → Held
swapped n i j w = record { vals = swap_pair w.vals i j; v = swap_columns n i j w.v n }

-- the pair at j moved forward past those that it stands before
unfoldable pub forward : ℕ → ℕ → Held → Held
unfolding swap_columns
forward n zero w = w
forward n (suc j) w = elim (before (get_or w.vals (suc j) nan) (get_or w.vals j nan)) [ true ↦ forward n j (swapped n j (suc j) w) | false ↦ w ]

-- the first i pairs moved forward one after another
unfoldable pub sorted : ℕ → Held → ℕ → Held
unfolding forward
sorted n w zero = w
sorted n w (suc i) = forward n i (sorted n w i)
