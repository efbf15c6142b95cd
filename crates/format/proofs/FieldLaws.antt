-- Reading gives every field's bits back: of a sheet that passes tests 1 to 7 and 14, each body and relation gives back the bytes that it uses. Test 5 puts every byte within its
-- table, and test 7 leaves no NaN, the one double whose bits are not kept. Assumes nothing.
use mathlib.Core.Path.{◌≡◌, refl, sym}
use mathlib.Core.Bool.{Bool, true, false}
use mathlib.Core.List.{List}
use Prim.Native.Nat.{ℕ, zero, suc, ◌+◌, ◌<◌, ◌≤◌}
use native.Mathlib.Nat.{add_assoc}
use native.Mathlib.Omega.{arith}
use lib.Dec.{eqb}
use lib.Ieee.{Float, nan, inf, fin, binary64, is_nan, lt, eq, le}
use lib.Ieee.Bits.{to_bits-of_bits}
use borrow.Author.Tests.{leb-true, eqb-true}
use Rattle.numbers.specs.Double.{abs}
use Rattle.vectors.specs.Vec.{Vec}
use Rattle.relations.specs.Model.{gear}
use Rattle.relations.specs.declared.model.JointKind.TheVariants.{Ball}
use Rattle.records.specs.Numbers.{GEAR, CIRCLE, law_number, joint_number, prim_number, flag_number, body_ref_number}
use Rattle.records.specs.Record.{byte_at, u16_at, u64_at, double_at, vec_at, uses_joint, uses_mirrored, uses_flag, uses_third, body_number_at, prim_at, body_at, end_at, law_by, rel_at}
use Rattle.records.specs.Limits.{within, within_v, THOUSAND, UNIT_LIMIT}
use Rattle.records.proofs.NumberLaws.{each_case, case_of}
use Rattle.records.proofs.RecordLaws.{prim_number_lem, kind_number, law_number_lem}
use Rattle.format.specs.Format.{bodies_of, relations_of, body_start, rel_start}
use Rattle.format.specs.Faults.{byte_up_to, body_shape, body_limits, end_shape, end_limits, third_shape, rel_shape, rel_limits, body_fault, rel_fault, sheet_fault}
use Rattle.format.proofs.RefusalLaws.{and_left, and_right, faultless, body_tests, rel_tests}
use Rattle.format.specs.Fields.{DoubleBack, VecBack, BodyBack, PrimBack, EndBack, LawBack, RelBack}

-- every element is a byte
abbrev pub Bytes : List ℕ → Type 0
Bytes s = (i : ℕ) → byte_at s i < 256

-- ---- doubles

-- what is within a limit is a number
pub number : (limit x : Float) → within limit x ≡ true → is_nan x ≡ false
unfolding within abs le lt eq is_nan
number limit nan h = sym h
number limit (inf s) h = refl
number limit (fin s m e) h = refl

-- a double that is no NaN gives its bits back
pub bits_back : (s : List ℕ) (o : ℕ) → Bytes s → is_nan (double_at s o) ≡ false → DoubleBack s o (double_at s o)
unfolding double_at
bits_back s o b h =
    let in_word : u64_at s o < 0x1_0000_0000_0000_0000 =
    omega (arith, b o, b (o + 1), b (o + 2), b (o + 3), b (o + 4), b (o + 5), b (o + 6), b (o + 7)) in
    to_bits-of_bits binary64 (u64_at s o) in_word (rw h tt)

double_back : (s : List ℕ) (o : ℕ) (limit : Float) → Bytes s → within limit (double_at s o) ≡ true → DoubleBack s o (double_at s o)
double_back s o limit b h = bits_back s o b (number limit (double_at s o) h)

vec_back : (s : List ℕ) (o : ℕ) (limit : Float) → Bytes s → within_v limit (vec_at s o) ≡ true → VecBack s o (vec_at s o)
unfolding within_v
vec_back s o limit b h =
    record {
      x = double_back s o limit b (search (and_left, and_right));
      y = double_back s (o + 8) limit b (search (and_left, and_right));
      z = double_back s (o + 16) limit b (search (and_left, and_right));
    }

-- ---- bytes and numbers

pub up_to : (used : Bool) (most b : ℕ) → byte_up_to used most b ≡ true → b ≤ most
unfolding byte_up_to
up_to true most b h = leb-true b most h
up_to false most b h = omega (arith, eqb-true b 0 h)

pub flag_back : (n : ℕ) → n ≤ flag_number true → flag_number (eqb n (flag_number true)) ≡ n
flag_back zero h = refl
flag_back (suc zero) h = refl
flag_back (suc (suc n)) h = absurd (omega arith)

place_back : (b : ℕ) → body_ref_number (body_number_at b) ≡ b
unfolding body_number_at
place_back b = each_case body_ref_number b (λ p. body_ref_number p ≡ b) _ _ ((λ q. sym q), refl)

-- ---- bodies

body_of : (s : List ℕ) (o : ℕ) → Bytes s → body_shape s o ≡ true → body_limits s o ≡ true → BodyBack s o (body_at s o)
unfolding body_shape body_limits body_at
body_of s o b shape limits =
    record {
      fixed = flag_back (byte_at s o) (leb-true (byte_at s o) (flag_number true) (search (and_left, and_right)));
      origin = vec_back s (o + 8) THOUSAND b (search (and_left, and_right));
      x = rw (add_assoc o 8 24) (vec_back s (o + 32) UNIT_LIMIT b (search (and_left, and_right)));
      y = rw (add_assoc o 8 48) (vec_back s (o + 56) UNIT_LIMIT b (search (and_left, and_right)));
      z = rw (add_assoc o 8 72) (vec_back s (o + 80) UNIT_LIMIT b (search (and_left, and_right)));
      center = vec_back s (o + 104) THOUSAND b (search (and_left, and_right));
      size = double_back s (o + 128) THOUSAND b (search (and_left, and_right));
    }

body_back : (s : List ℕ) (o : ℕ) → Bytes s → body_fault s o ≡ 0 → BodyBack s o (body_at s o)
body_back s o b h = let p = body_tests s o h in body_of s o b p.0 p.1

-- ---- ends

prim_back : (s : List ℕ) (e n : ℕ) (p d : Vec Float) (r : Float) → VecBack s (e + 8) p → VecBack s (e + 32) d → DoubleBack s (e + 56) r → PrimBack s e (prim_at n p d r)
unfolding prim_at
prim_back s e n p d r x y z = each_case prim_number n (λ g. PrimBack s e g) _ _ ((λ q. (x, y)), ((λ q. (x, y)), ((λ q. x), (x, (y, z)))))

end_back : (law : ℕ) (s : List ℕ) (e : ℕ) → Bytes s → end_shape law s e ≡ true → end_limits s e ≡ true → EndBack s e (end_at s e)
unfolding end_shape end_limits end_at
end_back law s e b shape limits =
    record {
      kind = prim_number_lem (byte_at s e) _ _ _ (leb-true (byte_at s e) CIRCLE (search (and_left, and_right)));
      mirrored = flag_back (byte_at s (e + 1)) (up_to (uses_mirrored law) (flag_number true) (byte_at s (e + 1)) (search (and_left, and_right)));
      body = place_back (u16_at s (e + 2));
      prim =
          prim_back s e (byte_at s e) (vec_at s (e + 8)) (vec_at s (e + 32)) (double_at s (e + 56)) (vec_back s (e + 8) THOUSAND b (search (and_left, and_right)))
          (vec_back s (e + 32) UNIT_LIMIT b (search (and_left, and_right))) (double_back s (e + 56) THOUSAND b (search (and_left, and_right)));
      radius = double_back s (e + 64) THOUSAND b (search (and_left, and_right));
    }

-- ---- relations

law_back : (n : ℕ) (s : List ℕ) (r : ℕ) → n ≤ GEAR → byte_at s (r + 1) ≤ joint_number Ball → byte_at s (r + 2) ≤ flag_number true → DoubleBack s (r + 8) (double_at s (r + 8))
    → DoubleBack s (r + 16) (double_at s (r + 16)) → VecBack s (r + 24) (vec_at s (r + 24)) → (uses_third n ≡ true → EndBack s (r + 192) (end_at s (r + 192)))
    → LawBack s r (law_by n s r)
unfolding law_by
law_back n s r h j f off want v third =
    let flag = flag_back (byte_at s (r + 2)) f in
    let kind = kind_number (byte_at s (r + 1)) j in
    let last : (n ≡ GEAR → LawBack s r (gear (u16_at s (r + 4)) (u16_at s (r + 6)) (double_at s (r + 16)) (end_at s (r + 192)))) =
    λ q. (refl, (refl, (want, third (rw q)))) in
    case_of law_number (λ l. LawBack s r l) n 0 _ _ (refl, (refl, (refl, (refl, (refl, (refl, (refl, refl))))))) (omega arith) h
    ((λ q. off), ((λ q. off), ((λ q. (want, v)), ((λ q. (off, flag)), ((λ q. (off, flag)), ((λ q. third (rw q)), ((λ q. (kind, (flag, (off, want)))), last)))))))

third_used : (law : ℕ) (s : List ℕ) (e : ℕ) → third_shape law s e ≡ true → uses_third law ≡ true → end_shape law s e ≡ true
unfolding third_shape
third_used law s e h p = rw p at h

rel_of_lem : (s : List ℕ) (r : ℕ) → Bytes s → rel_shape s r ≡ true → rel_limits s r ≡ true → RelBack s r (rel_at s r)
unfolding rel_shape rel_limits rel_at
rel_of_lem s r b shape limits =
    let law = byte_at s r in
    record {
      number = law_number_lem law s r (leb-true law GEAR (search (and_left, and_right) depth 12));
      law =
          law_back law s r (leb-true law GEAR (search (and_left, and_right) depth 12)) (up_to (uses_joint law) (joint_number Ball) (byte_at s (r + 1)) (search (and_left, and_right) depth 12))
          (up_to (uses_flag law) (flag_number true) (byte_at s (r + 2)) (search (and_left, and_right) depth 12))
          (double_back s (r + 8) THOUSAND b (search (and_left, and_right) depth 12)) (double_back s (r + 16) THOUSAND b (search (and_left, and_right) depth 12))
          (vec_back s (r + 24) UNIT_LIMIT b (search (and_left, and_right) depth 12))
          (λ p. end_back law s (r + 192) b (third_used law s (r + 192) (search (and_left, and_right) depth 12) p) (search (and_left, and_right) depth 12));
      a = end_back law s (r + 48) b (search (and_left, and_right) depth 12) (search (and_left, and_right) depth 12);
      b = end_back law s (r + 120) b (search (and_left, and_right) depth 12) (search (and_left, and_right) depth 12);
    }

rel_back : (m : ℕ) (s : List ℕ) (r : ℕ) → Bytes s → rel_fault m s r ≡ 0 → RelBack s r (rel_at s r)
rel_back m s r b h = let p = rel_tests m s r h in rel_of_lem s r b p.0 p.1

-- ---- the sheet

-- of a sheet that passes tests 1 to 7 and 14, every body gives its fields back, and every relation
pub bodies_back : (s : List ℕ) → Bytes s → sheet_fault s ≡ 0 → (i : ℕ) → i < bodies_of s → BodyBack s (body_start i) (body_at s (body_start i))
bodies_back s b h i l = body_back s (body_start i) b ((faultless s (bodies_of s) (relations_of s) refl refl h).body i l)

pub rels_back : (s : List ℕ) → Bytes s → sheet_fault s ≡ 0 → (j : ℕ) → j < relations_of s
    → RelBack s (rel_start (bodies_of s) j) (rel_at s (rel_start (bodies_of s) j))
rels_back s b h j l = rel_back (bodies_of s) s (rel_start (bodies_of s) j) b ((faultless s (bodies_of s) (relations_of s) refl refl h).rel j l)
