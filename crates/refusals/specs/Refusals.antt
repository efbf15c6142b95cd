-- Which number a call gives, or 0 for none, for any bytes, numbers and lengths of lent memory. Document 01, "What a call says", the table of refusals and the order of
-- its tests: 1 to 7 of the sheet, and document 02's 14, then 13, 8, 11, 12, document 02's 15 and 16, 10, 9. Definitions only.
use Rattle.std.specs.Prelude.{ℕ, ◌+◌, ◌*◌, ◌/◌, Bool, true, ◌&&◌, ◌||◌, List, length, eqb, leb, ltb}
use Rattle.judging.specs.Judge.{judge}
use Rattle.least_squares.specs.Lm.{list_of}
use Rattle.scene.specs.Solve.{Scene, unknowns, rows_of, start_at, Parameters, plain, in_range}
use Rattle.records.specs.Numbers.{GROUND}
use Rattle.records.specs.Record.{rel_at}
use Rattle.format.specs.Format.{bodies_of, relations_of, rel_start}
use Rattle.format.specs.Faults.{or_else, unless, sheet_fault}
use Rattle.refusals.specs.SceneAt.{scene_at}

-- ---- 13, 8, 11, 12, 15, 16, 10, 9: what the call takes

-- R, and n
abbrev pub rows_in : Scene → ℕ
rows_in sc = length (rows_of sc (list_of start_at (unknowns sc)))

-- document 02, 7/14: a whole square, and of another the lower triangle
abbrev pub solve_scratch : List ℕ → ℕ
solve_scratch s =
    let sc = scene_at s in
    let R = rows_in sc in
    let n = unknowns sc in
    R * n + R * R + R * (R + 1) / 2 + 8 * R + 8 * n + 32 * bodies_of s

abbrev pub dof_scratch : List ℕ → ℕ
dof_scratch s =
    let sc = scene_at s in
    let R = rows_in sc in
    let n = unknowns sc in
    R * n + 2 * (n * n) + 8 * R + 8 * n + 32 * bodies_of s

abbrev pub relation_fault : List ℕ → ℕ → ℕ
relation_fault s j = unless (ltb j (relations_of s)) 13

-- 65535 drags none
abbrev pub drag_fault : List ℕ → ℕ → ℕ
drag_fault s drag = unless (eqb drag GROUND || ltb drag (bodies_of s)) 8

-- a parameter is a NaN or outside its range
abbrev pub parameters_fault : Parameters → ℕ
parameters_fault p = unless (in_range p) 15

unfoldable pub judge_fault : List ℕ → ℕ → ℕ
judge_fault s j = or_else (sheet_fault s) (or_else (relation_fault s j) (judge (rel_at s (rel_start (bodies_of s) j))))

unfoldable pub reading_fault : List ℕ → ℕ → ℕ
reading_fault s j = or_else (sheet_fault s) (relation_fault s j)

-- `motion` is the length of the lent slice
unfoldable pub snap_fault : List ℕ → ℕ → ℕ → ℕ
snap_fault s j motion = or_else (sheet_fault s) (or_else (relation_fault s j) (unless (leb 12 motion) 10))

unfoldable pub solve_with_fault : List ℕ → Parameters → ℕ → ℕ → ℕ → ℕ → ℕ → ℕ
solve_with_fault s p drag scratch poses frames errors =
    or_else (sheet_fault s)
    (or_else (drag_fault s drag)
    (or_else (parameters_fault p)
    (or_else (unless (leb (12 * bodies_of s) poses && (leb (12 * bodies_of s) frames && leb (relations_of s) errors)) 10) (unless (leb (solve_scratch s) scratch) 9))))

-- a call that chooses nothing; no such call is refused by 15 (`plain_fault` of proofs/LentLaws.antt)
abbrev pub solve_fault : List ℕ → ℕ → ℕ → ℕ → ℕ → ℕ → ℕ
solve_fault s drag scratch poses frames errors = solve_with_fault s plain drag scratch poses frames errors

unfoldable pub dof_fault : List ℕ → ℕ → ℕ → ℕ
dof_fault s scratch freedoms = or_else (sheet_fault s) (or_else (unless (leb (29 * bodies_of s) freedoms) 10) (unless (leb (dof_scratch s) scratch) 9))

-- ---- solving by rounds: document 02, 6/14

-- the doubles of a running state: the damping, the unknowns, those of the first run, the rows
abbrev pub state_length : List ℕ → ℕ
state_length s = let sc = scene_at s in 1 + 2 * unknowns sc + rows_in sc

-- 1 to 1000 rounds
abbrev pub portion_fits : ℕ → Bool
portion_fits portion = leb 1 portion && leb portion 1000

-- the counts of unknowns and rows are the sheet's
abbrev pub counts_fit : List ℕ → ℕ → ℕ → Bool
counts_fit s n R = let sc = scene_at s in eqb n (unknowns sc) && eqb R (rows_in sc)

-- a call that begins, or goes on; `counted` says whether the counts that it hands over are the sheet's
unfoldable pub rounds_fault : List ℕ → Parameters → ℕ → ℕ → Bool → ℕ → ℕ → ℕ → ℕ → ℕ → ℕ
rounds_fault s p drag portion counted state scratch poses frames errors =
    or_else (sheet_fault s) (or_else (drag_fault s drag) (or_else (parameters_fault p)
    (or_else (unless (portion_fits portion && counted) 16)
    (or_else (unless (leb (state_length s) state && (leb (12 * bodies_of s) poses && (leb (12 * bodies_of s) frames && leb (relations_of s) errors))) 10) (unless (leb (solve_scratch s) scratch) 9)))))

abbrev pub begin_fault : List ℕ → Parameters → ℕ → ℕ → ℕ → ℕ → ℕ → ℕ → ℕ → ℕ
begin_fault s p drag portion state scratch poses frames errors = rounds_fault s p drag portion true state scratch poses frames errors

abbrev pub on_fault : List ℕ → Parameters → ℕ → ℕ → ℕ → ℕ → ℕ → ℕ → ℕ → ℕ → ℕ → ℕ
on_fault s p drag portion n R state scratch poses frames errors = rounds_fault s p drag portion (counts_fit s n R) state scratch poses frames errors
