-- The first eight bytes of the part from a place on are those at the place; what the tables by number give for a byte. Assumes nothing.
use mathlib.Core.Path.{◌≡◌, refl, ap, ◌∙◌}
use mathlib.Core.List.{List}
use Prim.Native.Nat.{ℕ, ◌+◌, ◌-◌, ◌≤◌}
use native.Mathlib.Nat.{zero-add, add-zero}
use native.Mathlib.Omega.{arith}
use lib.ListN.{length, take, drop, length-drop}
use lib.Seq.{take_all, get_or-drop}
use lib.Ieee.{Float}
use Rattle.vectors.specs.Vec.{Vec}
use Rattle.relations.specs.Model.{gear}
use Rattle.relations.specs.declared.model.JointKind.TheVariants.{Ball}
use Rattle.records.specs.Numbers.{CIRCLE, GEAR, prim_number, joint_number, law_number}
use Rattle.records.specs.Record.{prim_at, joint_kind_at, law_by, u16_at, u64_at, double_at, end_at}
use Rattle.records.proofs.NumberLaws.{number_back, last_case}

-- ---- the first eight bytes of the part from o on

from_place : (s : List ℕ) (o : ℕ) → u64_at (drop o s) 0 ≡ u64_at s o
from_place s o = simp (get_or-drop, zero-add, add-zero)

pub u64_from : (s : List ℕ) (o : ℕ) → u64_at (take (length s - o) (drop o s)) 0 ≡ u64_at s o
u64_from s o = ap (λ (l : List ℕ). u64_at l 0) (take_all (length s - o) (drop o s) (omega (arith, length-drop o s))) ∙ from_place s o

-- ---- a byte of each table gives its own number back; from the last number on, the last case

pub prim_number_lem : (n : ℕ) (p d : Vec Float) (r : Float) → n ≤ CIRCLE → prim_number (prim_at n p d r) ≡ n
unfolding prim_at
prim_number_lem n p d r h = number_back prim_number n 0 _ _ (refl, (refl, (refl, refl))) (omega arith) h

pub kind_number : (n : ℕ) → n ≤ joint_number Ball → joint_number (joint_kind_at n) ≡ n
unfolding joint_kind_at
kind_number n h = number_back joint_number n 0 _ _ (refl, (refl, (refl, (refl, (refl, refl))))) (omega arith) h

pub law_number_lem : (n : ℕ) (s : List ℕ) (r : ℕ) → n ≤ GEAR → law_number (law_by n s r) ≡ n
unfolding law_by
law_number_lem n s r h = number_back law_number n 0 _ _ (refl, (refl, (refl, (refl, (refl, (refl, (refl, refl))))))) (omega arith) h

pub last_law : (n : ℕ) (s : List ℕ) (r : ℕ) → GEAR ≤ n
    → law_by n s r ≡ gear (u16_at s (r + 4)) (u16_at s (r + 6)) (double_at s (r + 16)) (end_at s (r + 192))
unfolding law_by
last_law n s r h = last_case law_number n 0 _ _ (refl, (refl, (refl, (refl, (refl, (refl, (refl, refl))))))) h
