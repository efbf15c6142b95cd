-- A sheet's report from the answers of its two calls: its text has no more of the slices than the k errors and the first 29 doubles of each of the m bodies, and a refusal is
-- the first call's that refuses. Assumes nothing.
use mathlib.Core.Path.{◌≡◌, refl, sym, ap, ◌∙◌}
use mathlib.Core.Bool.{Bool, true, false, cond}
use mathlib.Core.List.{List, ◌++◌}
use Prim.Native.Nat.{ℕ, zero, suc, ◌+◌, ◌*◌, ◌≤◌, ◌<◌}
use native.Mathlib.Omega.{arith}
use lib.ListN.{length, get_or, drop, length-append, length-drop, get_or-append}
use lib.Dec.{eqb}
use lib.Ieee.{Float, nan}
use borrow.Author.Tests.{eq-eqb, ne_eqb}
use Rattle.body_freedom.specs.Layout.{freedoms_doubles}
use Rattle.format.specs.Format.{bodies_of, relations_of}
use Rattle.format.specs.Faults.{sheet_fault}
use Rattle.refusals.specs.Refusals.{solve_with_fault, dof_fault}
use Rattle.records.specs.Numbers.{flag_number}
use Rattle.sheet.specs.Solving.{SolveWithAnswer}
use Rattle.sheet.specs.Freedoms.{freedoms_of, DofAnswer}
use Rattle.format.proofs.RefusalLaws.{first, later}
use Rattle.refusals.proofs.NumberLaws.{solve_le, dof_le}
use Rattle.sheet.proofs.FreedomLaws.{accepted, whole_few}
use Rattle.refusals.proofs.FigureLaws.{counted}
use Rattle.writing.specs.Bytes.{joined, Put}
use Rattle.writing.proofs.PutLaws.{put_as}
use Rattle.report.specs.Report.{relation_line, body_line, relation_lines, body_lines, answer_text, refused_text}
use Rattle.report.specs.ReportOf.{report_parameters, report_solution, solve_number, dof_number, number_of, answer_of, report_of}

-- a text with equal counts
pub put_counted : (s t : List ℕ) (o r : ℕ) (b : Bool) (errors : List Float) (k k' free : ℕ) (freedoms : List Float) (m m' : ℕ) → k ≡ k' → m ≡ m'
    → Put s t o r (answer_text b errors k free freedoms m) → Put s t o r (answer_text b errors k' free freedoms m')
put_counted s t o r b errors k k' free freedoms m m' e f p = put_as s t o r _ _ (λ i. answer_text b errors (e i) free freedoms (f i)) p

-- ---- what the text depends on

joined_same : (f g : ℕ → List ℕ) (k : ℕ) → ((j : ℕ) → j < k → f j ≡ g j) → joined f k ≡ joined g k
unfolding joined
joined_same f g zero h = refl
joined_same f g (suc k) h =
    let a = joined_same f g k (λ j l. h j (omega arith)) in
    let b = h k (omega arith) in
    (λ i. a i ++ b i)

relations_front : (l rest : List Float) (k : ℕ) → k ≤ length l → relation_lines (l ++ rest) k ≡ relation_lines l k
relations_front l rest k h =
    joined_same (λ j. relation_line j (get_or (l ++ rest) j nan)) (λ j. relation_line j (get_or l j nan)) k
    (λ j w. ap (λ (x : Float). relation_line j x) (get_or-append l rest nan j (omega arith)))

bodies_front : (l rest : List Float) (m : ℕ) → 29 * m ≤ length l → body_lines (l ++ rest) m ≡ body_lines l m
bodies_front l rest m h =
    joined_same (λ i. body_line i (get_or (l ++ rest) (29 * i) nan) (get_or (l ++ rest) (29 * i + 1) nan)) (λ i. body_line i (get_or l (29 * i) nan) (get_or l (29 * i + 1) nan)) m
    (λ j w.
    let a = get_or-append l rest nan (29 * j) (omega arith) in
    let b = get_or-append l rest nan (29 * j + 1) (omega arith) in
    (λ i. body_line j (a i) (b i)))

-- what stands behind k errors and 29 doubles for each of m bodies has no say
pub answer_front : (t : Bool) (errors more : List Float) (k free : ℕ) (freedoms rest : List Float) (m : ℕ) → k ≤ length errors → 29 * m ≤ length freedoms
    → answer_text t (errors ++ more) k free (freedoms ++ rest) m ≡ answer_text t errors k free freedoms m
answer_front t errors more k free freedoms rest m h g = rw (relations_front errors more k h, bodies_front freedoms rest m g)

-- a list at the front of a slice that kept its length and its rest
front_length : (l s t : List Float) (k : ℕ) → t ≡ l ++ drop k s → length t ≡ length s → k ≤ length s → length l ≡ k
front_length l s t k e q h =
    let a = length-append l (drop k s) in
    let b = length-drop k s in
    let d = ap length e in
    omega arith

-- ---- a refusal

-- its number has at most five digits
pub solve_small : (s : List ℕ) (drag r scratch poses frames errors : ℕ) → r ≡ solve_with_fault s report_parameters drag scratch poses frames errors → r < 100000
solve_small s drag r scratch poses frames errors e = omega (arith, e, solve_le s report_parameters drag scratch poses frames errors)

pub dof_small : (s : List ℕ) (r scratch freedoms : ℕ) → r ≡ dof_fault s scratch freedoms → r < 100000
dof_small s r scratch freedoms e = omega (arith, e, dof_le s scratch freedoms)

refused_number : (s : List ℕ) (n : ℕ) → n ≡ number_of s → (n ≡ 0 → ⊥) → refused_text n ≡ report_of s
unfolding report_of
refused_number s n e ne =
    sym (ap (λ (t : Bool). cond t (answer_of s) (refused_text n)) (ne_eqb n 0 ne)) ∙ (λ i. cond (eqb (e i) 0) (answer_of s) (refused_text (e i)))

-- the numbers of the calls are those for the lengths that `report` lends
pub solve_number_lem : (s : List ℕ) (r a b c d : ℕ) → a ≡ 8192 → b ≡ 768 → c ≡ 768 → d ≡ 128 → r ≡ solve_with_fault s report_parameters 65535 a b c d → r ≡ solve_number s
solve_number_lem s r a b c d p q u v e = e ∙ (λ i. solve_with_fault s report_parameters 65535 (p i) (q i) (u i) (v i))

pub dof_number_lem : (s : List ℕ) (r a b : ℕ) → a ≡ 8192 → b ≡ 1856 → r ≡ dof_fault s a b → r ≡ dof_number s
dof_number_lem s r a b p q e = e ∙ (λ i. dof_fault s (p i) (q i))

pub first_refused : (s : List ℕ) (r : ℕ) → r ≡ solve_number s → (r ≡ 0 → ⊥) → refused_text r ≡ report_of s
unfolding number_of
first_refused s r e ne = refused_number s r (first _ (solve_number s) (dof_number s) r refl e ne) ne

pub second_refused : (s : List ℕ) (q r : ℕ) → q ≡ solve_number s → q ≡ 0 → r ≡ dof_number s → (r ≡ 0 → ⊥) → refused_text r ≡ report_of s
unfolding number_of
second_refused s q r h z e ne = refused_number s r (later _ (solve_number s) (dof_number s) q r refl h z e) ne

-- ---- an answer

number_none : (s : List ℕ) (q r : ℕ) → q ≡ solve_number s → q ≡ 0 → r ≡ dof_number s → r ≡ 0 → number_of s ≡ 0
unfolding number_of
number_none s q r h z e y = sym (later _ (solve_number s) (dof_number s) q r refl h z e) ∙ y

answer_printed : (s : List ℕ) → number_of s ≡ 0 → answer_of s ≡ report_of s
unfolding report_of
answer_printed s e = sym (ap (λ (t : Bool). cond t (answer_of s) (refused_text (number_of s))) (eq-eqb (number_of s) 0 e))

flag_back : (b : Bool) (n : ℕ) → n ≡ flag_number b → eqb n 1 ≡ b
flag_back true n e = eq-eqb n 1 e
flag_back false n e = ne_eqb n 1 (λ q. omega arith)

-- what an accepted `dof` says
module _ (s : List ℕ) (r : ℕ) (scratch scratch' freedoms freedoms' : List Float) (free free' : ℕ) (y : DofAnswer s r scratch scratch' freedoms freedoms' free free') (z : r ≡ 0) where
  pub sheet_passes : sheet_fault s ≡ 0
  sheet_passes = (accepted s (length scratch) (length freedoms) (sym y.number ∙ z)).sheet

  free_is : free' ≡ (freedoms_of s).total
  free_is = y.free_is ∙ ap (λ (b : Bool). cond b (freedoms_of s).total free) (eq-eqb r 0 z)

  freedoms_are : freedoms' ≡ freedoms_doubles (freedoms_of s).bodies ++ drop (29 * bodies_of s) freedoms
  freedoms_are = y.freedoms_are ∙ ap (λ (b : Bool). cond b (freedoms_doubles (freedoms_of s).bodies ++ drop (29 * bodies_of s) freedoms) freedoms) (eq-eqb r 0 z)

  pub free_small : free' ≤ 768
  free_small =
      let e = free_is in
      omega (arith, e, whole_few s sheet_passes)

  freedoms_size : length freedoms' ≡ length freedoms → length (freedoms_doubles (freedoms_of s).bodies) ≡ 29 * bodies_of s
  freedoms_size kept =
      front_length (freedoms_doubles (freedoms_of s).bodies) freedoms freedoms' (29 * bodies_of s) freedoms_are kept (accepted s (length scratch) (length freedoms) (sym y.number ∙ z)).freedoms_long

-- what an accepted `solve` says
module _ (s : List ℕ) (q : ℕ) (scratch scratch' poses poses' frames frames' errors errors' : List Float) (flag flag' : ℕ)
    (x : SolveWithAnswer s report_parameters 65535 q scratch scratch' poses poses' frames frames' errors errors' flag flag') (z : q ≡ 0) where
  converged_is : eqb flag' 1 ≡ (report_solution s).converged
  converged_is =
      flag_back (report_solution s).converged flag'
      (x.flag_is ∙ ap (λ (b : Bool). cond b (flag_number (report_solution s).converged) flag) (eq-eqb q 0 z))

  errors_are : errors' ≡ (report_solution s).errors ++ drop (relations_of s) errors
  errors_are = x.errors_are ∙ ap (λ (b : Bool). cond b ((report_solution s).errors ++ drop (relations_of s) errors) errors) (eq-eqb q 0 z)

  -- both answers, as `report` prints them
  pub answered : (r : ℕ) (again again' freedoms freedoms' : List Float) (free free' : ℕ) → DofAnswer s r again again' freedoms freedoms' free free' → r ≡ 0
      → q ≡ solve_number s → r ≡ dof_number s → length errors ≡ 128 → length errors' ≡ length errors → length freedoms' ≡ length freedoms
      → answer_text (eqb flag' 1) errors' (relations_of s) free' freedoms' (bodies_of s) ≡ report_of s
  answered r again again' freedoms freedoms' free free' y w h g l a b =
      let n = counted s (sheet_passes s r again again' freedoms freedoms' free free' y w) in
      let j = front_length (report_solution s).errors errors errors' (relations_of s) errors_are a (omega (arith, n.1)) in
      let k = freedoms_size s r again again' freedoms freedoms' free free' y w b in
      let c = converged_is in
      let e = errors_are in
      let f = free_is s r again again' freedoms freedoms' free free' y w in
      let d = freedoms_are s r again again' freedoms freedoms' free free' y w in
      (λ i. answer_text (c i) (e i) (relations_of s) (f i) (d i) (bodies_of s))
      ∙ answer_front (report_solution s).converged (report_solution s).errors (drop (relations_of s) errors) (relations_of s) (freedoms_of s).total
      (freedoms_doubles (freedoms_of s).bodies) (drop (29 * bodies_of s) freedoms) (bodies_of s) (omega arith) (omega arith)
      ∙ answer_printed s (number_none s q r h z g w)
