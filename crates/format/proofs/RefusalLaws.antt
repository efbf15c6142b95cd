-- Tests in a row, what no fault says of each record, tests that are the same or joined, and what a header that passes says of the sheet's length.
-- Assumes nothing.
use mathlib.Core.Path.{◌≡◌, refl, sym, subst, ◌∙◌}
use mathlib.Core.Bool.{Bool, true, false, ◌&&◌, cond}
use mathlib.Core.List.{List}
use mathlib.Core.Logic.{⊎_elim}
use Prim.Native.Nat.{ℕ, zero, suc, ◌+◌, ◌≤◌, ◌<◌}
use native.Mathlib.Nat.{eq-or-lt_of_le, le_of_suc-le-suc}
use native.Mathlib.Numerals.{add-one}
use native.Mathlib.Omega.{arith}
use lib.ListN.{length}
use lib.Dec.{leb}
use borrow.Author.Tests.{leb-true, eqb-true}
use Rattle.faults.specs.declared.fault.Fault.{Fault}
use Rattle.std.specs.Prelude.{Result, Ok, Err}
use Rattle.std.specs.Result.{result_and}
use Rattle.faults.specs.Fault.{number, number_of}
use Rattle.faults.proofs.FaultLaws.{number_nonzero}
use Rattle.format.specs.Format.{bodies_of, relations_of, body_start, rel_start}
use Rattle.format.specs.Faults.{or_else, header_fault, header_zeros, header_counts, header_offsets, body_shape, body_limits, body_fault, rel_shape, rel_teeth, rel_names, rel_limits, rel_fault, bodies_fault, rels_fault, sheet_fault}

-- ---- the first that is not 0

pub or_else_first : (a b : ℕ) → (a ≡ 0 → ⊥) → a ≡ or_else a b
or_else_first zero b h = absurd (h refl)
or_else_first (suc a) b h = refl

-- a test that refuses, before any other
pub or_else_fault : (f : Fault) (b : ℕ) → or_else (number f) b ≡ number f
or_else_fault f b = sym (or_else_first (number f) b (number_nonzero f))

pub none_of : (a b : ℕ) → or_else a b ≡ 0 → (a ≡ 0) × (b ≡ 0)
none_of zero b h = (refl, h)
none_of (suc a) b h = absurd (omega arith)

-- two tests, both made
pub number_and : (a b : Result Unit Fault) → number_of (result_and a b) ≡ or_else (number_of a) (number_of b)
number_and (Ok x) b = refl
number_and (Err f) b = sym (or_else_fault f (number_of b))

-- ---- the first fault among tests in a row: g n is that of the first n of the tests t

pub record FirstOf (t g : ℕ → ℕ) : Type 0 where
  pub none_yet : g 0 ≡ 0
  pub more : (n : ℕ) → g (suc n) ≡ or_else (g n) (t n)

-- one more test that passes
pub pass_more : (t g : ℕ → ℕ) → FirstOf t g → (i : ℕ) → g i ≡ 0 → t i ≡ 0 → g (i + 1) ≡ 0
pass_more t g h i p q = rw (add-one i, h.more i, p, q)

-- test i is the first that refuses
pub refuses_at : (t g : ℕ → ℕ) → FirstOf t g → (f : Fault) (i n : ℕ) → g i ≡ 0 → number f ≡ t i → i < n → number f ≡ g n
refuses_at t g h f i zero p q l = absurd (omega arith)
refuses_at t g h f i (suc n) p q l =
    ⊎_elim
    (λ (e : i ≡ n). let z : g n ≡ 0 = rw (← e) p in let o : t n ≡ number f = rw (← e) (sym q) in rw (h.more n, z, o))
    (λ (k : i < n). let o : g n ≡ number f = sym (refuses_at t g h f i n p q k) in rw (h.more n, o) (sym (or_else_fault f (t n))))
    (eq-or-lt_of_le (le_of_suc-le-suc l))

pub bodies_in_row : (s : List ℕ) → FirstOf (λ i. body_fault s (body_start i)) (bodies_fault s)
unfolding bodies_fault
bodies_in_row s = record { none_yet = refl; more = λ n. refl }

pub rels_in_row : (s : List ℕ) → FirstOf (λ j. rel_fault (bodies_of s) s (rel_start (bodies_of s) j)) (rels_fault s)
unfolding rels_fault
rels_in_row s = record { none_yet = refl; more = λ n. refl }

-- ---- no fault at all: none of any record, and all tests of a body and of a relation pass

each_body : (s : List ℕ) (m i : ℕ) → bodies_fault s m ≡ 0 → i < m → body_fault s (body_start i) ≡ 0
unfolding bodies_fault
each_body s zero i h l = absurd (omega arith)
each_body s (suc m) i h l =
    let p = none_of (bodies_fault s m) (body_fault s (body_start m)) h in
    ⊎_elim (λ (e : i ≡ m). rw e p.1) (λ (k : i < m). each_body s m i p.0 k) (eq-or-lt_of_le (le_of_suc-le-suc l))

each_rel : (s : List ℕ) (k j : ℕ) → rels_fault s k ≡ 0 → j < k → rel_fault (bodies_of s) s (rel_start (bodies_of s) j) ≡ 0
unfolding rels_fault
each_rel s zero j h l = absurd (omega arith)
each_rel s (suc k) j h l =
    let p = none_of (rels_fault s k) (rel_fault (bodies_of s) s (rel_start (bodies_of s) k)) h in
    ⊎_elim (λ (e : j ≡ k). rw e p.1) (λ (i : j < k). each_rel s k j p.0 i) (eq-or-lt_of_le (le_of_suc-le-suc l))

two : (a b : Bool) → ◌≡◌ {A = ℕ} (cond a (cond b 0 7) 5) 0 → (a ≡ true) × (b ≡ true)
two true true h = (refl, refl)
two true false h = absurd (let z : ◌≡◌ {A = ℕ} 7 0 = h in omega arith)
two false b h = absurd (let z : ◌≡◌ {A = ℕ} 5 0 = h in omega arith)

pub body_tests : (s : List ℕ) (o : ℕ) → body_fault s o ≡ 0 → (body_shape s o ≡ true) × (body_limits s o ≡ true)
unfolding body_fault
body_tests s o h = two (body_shape s o) (body_limits s o) h

four : (a t n l : Bool) → ◌≡◌ {A = ℕ} (cond a (cond t (cond n (cond l 0 7) 6) 14) 5) 0 → (a ≡ true) × (n ≡ true) × (l ≡ true)
four true true true true h = (refl, refl, refl)
four true true true false h = absurd (let z : ◌≡◌ {A = ℕ} 7 0 = h in omega arith)
four true true false l h = absurd (let z : ◌≡◌ {A = ℕ} 6 0 = h in omega arith)
four true false n l h = absurd (let z : ◌≡◌ {A = ℕ} 14 0 = h in omega arith)
four false t n l h = absurd (let z : ◌≡◌ {A = ℕ} 5 0 = h in omega arith)

pub rel_tests : (m : ℕ) (s : List ℕ) (r : ℕ) → rel_fault m s r ≡ 0 → (rel_shape s r ≡ true) × (rel_limits s r ≡ true)
unfolding rel_fault
rel_tests m s r h = let p = four (rel_shape s r) (rel_teeth s r) (rel_names m s r) (rel_limits s r) h in (p.0, p.2)

pub rel_named : (m : ℕ) (s : List ℕ) (r : ℕ) → rel_fault m s r ≡ 0 → rel_names m s r ≡ true
unfolding rel_fault
rel_named m s r h = (four (rel_shape s r) (rel_teeth s r) (rel_names m s r) (rel_limits s r) h).1

-- ---- two tests that pass together are the same; two tests joined

pub same : (a b : Bool) → (a ≡ true → b ≡ true) → (b ≡ true → a ≡ true) → a ≡ b
same true b h k = sym (h refl)
same false true h k = k refl
same false false h k = refl

pub and_left : (a b : Bool) → a && b ≡ true → a ≡ true
and_left true b h = refl
and_left false b h = h

pub and_right : (a b : Bool) → a && b ≡ true → b ≡ true
and_right true b h = h
and_right false b h = cc

pub and_both : (a b : Bool) → a ≡ true → b ≡ true → a && b ≡ true
and_both a b h k = rw (h, k)

-- ---- the header

pub passes : (a b c d : Bool) → ◌≡◌ {A = ℕ} (cond a (cond b (cond c (cond d 0 4) 3) 2) 1) 0 → (a ≡ true) × (b ≡ true) × (c ≡ true) × (d ≡ true)
passes true true true true h = (refl, refl, refl, refl)
passes true true true false h = absurd (let z : ◌≡◌ {A = ℕ} 4 0 = h in omega arith)
passes true true false d h = absurd (let z : ◌≡◌ {A = ℕ} 3 0 = h in omega arith)
passes true false c d h = absurd (let z : ◌≡◌ {A = ℕ} 2 0 = h in omega arith)
passes false b c d h = absurd (let z : ◌≡◌ {A = ℕ} 1 0 = h in omega arith)

-- a sheet whose header passes holds the header, and has the length of its records
pub record Sized (s : List ℕ) : Type 0 where
  pub header : 24 ≤ length s
  pub whole : length s ≡ rel_start (bodies_of s) (relations_of s)

pub header_passes : (s : List ℕ) → header_fault s ≡ 0 → Sized s
unfolding header_fault header_offsets
header_passes s h =
    let p = passes (leb 24 (length s)) (header_zeros s) (header_counts s) (header_offsets s) h in
    record {
      header = leb-true 24 (length s) p.0;
      whole = eqb-true (length s) (rel_start (bodies_of s) (relations_of s)) (search (and_right, p.3));
    }

-- ---- one test after another

-- a test's number is that of the first of two
pub later : (t a b f w : ℕ) → t ≡ or_else a b → f ≡ a → f ≡ 0 → w ≡ b → w ≡ t
later t a b f w p q z e = let h : a ≡ 0 = sym q ∙ z in rw (e, p, h)

pub first : (t a b f : ℕ) → t ≡ or_else a b → f ≡ a → (f ≡ 0 → ⊥) → f ≡ t
first t a b f p q ne = rw (p, ← q) (or_else_first f b ne)

-- of a sheet that passes the header does, and each of its m bodies and k relations
pub record Faultless (s : List ℕ) (m k : ℕ) : Type 0 where
  pub header : header_fault s ≡ 0
  pub body : (i : ℕ) → i < m → body_fault s (body_start i) ≡ 0
  pub rel : (j : ℕ) → j < k → rel_fault m s (rel_start m j) ≡ 0

pub faultless : (s : List ℕ) (m k : ℕ) → bodies_of s ≡ m → relations_of s ≡ k → sheet_fault s ≡ 0 → Faultless s m k
unfolding sheet_fault
faultless s m k em ek h =
    let p = none_of (header_fault s) (or_else (bodies_fault s (bodies_of s)) (rels_fault s (relations_of s))) h in
    let q = none_of (bodies_fault s (bodies_of s)) (rels_fault s (relations_of s)) p.1 in
    record {
      header = p.0;
      body = λ i l. each_body s (bodies_of s) i q.0 (rw em l);
      rel = λ j l. subst (λ (n : ℕ). rel_fault n s (rel_start n j) ≡ 0) em (each_rel s (relations_of s) j q.1 (rw ek l));
    }

-- it is as long as its header says
pub sheet_passes : (s : List ℕ) → sheet_fault s ≡ 0 → Sized s
sheet_passes s h = header_passes s (faultless s (bodies_of s) (relations_of s) refl refl h).header
