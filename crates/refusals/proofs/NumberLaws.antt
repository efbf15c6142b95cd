-- The number of a refusal of `solve` and `dof` is at most 15: by the tests, each of which gives 0 or its own number. Assumes nothing.
use mathlib.Core.Bool.{Bool, true, false, ◌&&◌, ◌||◌, cond}
use mathlib.Core.List.{List}
use Prim.Native.Nat.{ℕ, zero, suc, ◌*◌, ◌≤◌}
use native.Mathlib.Omega.{arith}
use lib.ListN.{length}
use lib.Dec.{eqb, leb, ltb}
use Rattle.records.specs.Numbers.{GROUND}
use Rattle.format.specs.Format.{bodies_of, relations_of, body_start, rel_start}
use Rattle.format.specs.Faults.{or_else, unless, header_zeros, header_counts, header_offsets, header_fault, body_shape, body_limits, body_fault, rel_shape, rel_teeth, rel_names, rel_limits, rel_fault, bodies_fault, rels_fault, sheet_fault}
use Rattle.scene.specs.Solve.{Parameters, in_range}
use Rattle.refusals.specs.Refusals.{drag_fault, parameters_fault, solve_scratch, solve_with_fault, dof_scratch, dof_fault}

abbrev pub LARGEST : ℕ
LARGEST = 15

or_else_le : (a b n : ℕ) → a ≤ n → b ≤ n → or_else a b ≤ n
or_else_le zero b n h k = k
or_else_le (suc a) b n h k = h

cond_le : (t : Bool) (a b n : ℕ) → a ≤ n → b ≤ n → cond t a b ≤ n
cond_le true a b n h k = h
cond_le false a b n h k = k

unless_le : (t : Bool) (w n : ℕ) → w ≤ n → unless t w ≤ n
unless_le t w n h = cond_le t 0 w n (omega arith) h

header_le : (s : List ℕ) → header_fault s ≤ LARGEST
unfolding header_fault
header_le s =
    cond_le (leb 24 (length s)) _ 1 LARGEST
    (cond_le (header_zeros s) _ 2 LARGEST (cond_le (header_counts s) _ 3 LARGEST (unless_le (header_offsets s) 4 LARGEST (omega arith)) (omega arith)) (omega arith)) (omega arith)

body_le : (s : List ℕ) (o : ℕ) → body_fault s o ≤ LARGEST
unfolding body_fault
body_le s o = cond_le (body_shape s o) _ 5 LARGEST (unless_le (body_limits s o) 7 LARGEST (omega arith)) (omega arith)

rel_le : (m : ℕ) (s : List ℕ) (r : ℕ) → rel_fault m s r ≤ LARGEST
unfolding rel_fault
rel_le m s r =
    cond_le (rel_shape s r) _ 5 LARGEST
    (cond_le (rel_teeth s r) _ 14 LARGEST (cond_le (rel_names m s r) _ 6 LARGEST (unless_le (rel_limits s r) 7 LARGEST (omega arith)) (omega arith)) (omega arith)) (omega arith)

bodies_le : (s : List ℕ) (i : ℕ) → bodies_fault s i ≤ LARGEST
unfolding bodies_fault
bodies_le s zero = omega arith
bodies_le s (suc i) = or_else_le (bodies_fault s i) _ LARGEST (bodies_le s i) (body_le s (body_start i))

rels_le : (s : List ℕ) (j : ℕ) → rels_fault s j ≤ LARGEST
unfolding rels_fault
rels_le s zero = omega arith
rels_le s (suc j) = or_else_le (rels_fault s j) _ LARGEST (rels_le s j) (rel_le (bodies_of s) s (rel_start (bodies_of s) j))

pub sheet_le : (s : List ℕ) → sheet_fault s ≤ LARGEST
unfolding sheet_fault
sheet_le s = or_else_le (header_fault s) _ LARGEST (header_le s) (or_else_le (bodies_fault s (bodies_of s)) _ LARGEST (bodies_le s (bodies_of s)) (rels_le s (relations_of s)))

pub solve_le : (s : List ℕ) (p : Parameters) (drag scratch poses frames errors : ℕ) → solve_with_fault s p drag scratch poses frames errors ≤ LARGEST
unfolding solve_with_fault
solve_le s p drag scratch poses frames errors =
    or_else_le (sheet_fault s) _ LARGEST (sheet_le s)
    (or_else_le (drag_fault s drag) _ LARGEST (unless_le (eqb drag GROUND || ltb drag (bodies_of s)) 8 LARGEST (omega arith))
    (or_else_le (parameters_fault p) _ LARGEST (unless_le (in_range p) 15 LARGEST (omega arith))
    (or_else_le (unless (leb (12 * bodies_of s) poses && (leb (12 * bodies_of s) frames && leb (relations_of s) errors)) 10) _ LARGEST
    (unless_le (leb (12 * bodies_of s) poses && (leb (12 * bodies_of s) frames && leb (relations_of s) errors)) 10 LARGEST (omega arith))
    (unless_le (leb (solve_scratch s) scratch) 9 LARGEST (omega arith)))))

pub dof_le : (s : List ℕ) (scratch freedoms : ℕ) → dof_fault s scratch freedoms ≤ LARGEST
unfolding dof_fault
dof_le s scratch freedoms =
    or_else_le (sheet_fault s) _ LARGEST (sheet_le s)
    (or_else_le (unless (leb (29 * bodies_of s) freedoms) 10) _ LARGEST (unless_le (leb (29 * bodies_of s) freedoms) 10 LARGEST (omega arith)) (unless_le (leb (dof_scratch s) scratch) 9 LARGEST (omega arith)))
