-- From structs to parts: a body or relation that passes its tests, read as a struct, has the struct's parts in the sheet. Each byte gives its own number back, and a field that
-- the law or the primitive leaves unused is 0 in both. Assumes nothing.
use mathlib.Core.Path.{◌≡◌, refl, sym, ap, subst, ◌∙◌}
use mathlib.Core.Bool.{Bool, true, false, cond}
use mathlib.Core.List.{List, [], ◌∷◌, ◌++◌}
use mathlib.Core.Option.{none, some}
use mathlib.Core.Logic.{⊎_elim}
use Prim.Native.Nat.{ℕ, zero, suc, ◌+◌, ◌<◌, ◌≤◌}
use native.Mathlib.Nat.{add_assoc, add-zero, eq-or-lt_of_le}
use native.Mathlib.Omega.{arith}
use lib.Dec.{eqb, leb, ltb}
use lib.Ieee.{Float, binary64, of_bits}
use borrow.Author.Tests.{leb-true, eqb-true, eqb-false, ltb-false}
use Rattle.numbers.specs.Double.{zero64}
use Rattle.vectors.specs.Vec.{Vec, zero_v}
use Rattle.relations.specs.Geometry.{Geo, point_of}
use Rattle.relations.specs.Model.{End, Law}
use Rattle.relations.specs.declared.model.JointKind.TheVariants.{Ball}
use Rattle.records.specs.Numbers.{GROUND, GEAR, CIRCLE, law_number, joint_number, prim_number, flag_number, by_number}
use Rattle.records.specs.Record.{byte_at, u16_at, double_at, vec_at, flag_at, zero_bytes, uses_offset, uses_angle, uses_reference, uses_flag, uses_joint, uses_mirrored, uses_teeth, uses_third, uses_direction, uses_circle_radius, prim_at, joint_kind_at, body_number_at, body_at, end_at, law_by, rel_at}
use Rattle.records.proofs.NumberLaws.{case_of}
use Rattle.records.proofs.RecordLaws.{prim_number_lem, kind_number, law_number_lem}
use Rattle.format.specs.Faults.{byte_up_to, used_or_zero, body_shape, end_shape, third_shape, rel_shape, body_fault, rel_fault}
use Rattle.format.proofs.RefusalLaws.{and_left, and_right, body_tests, rel_tests}
use Rattle.format.proofs.FieldLaws.{up_to, flag_back}
use Rattle.writing.specs.Writing.{RelParts, AllBytes, doubles_at, body_parts_at, rel_parts_at}
use Rattle.saving.specs.Saving.{body_parts, rel_parts, NO_BODY, body_word, direction_field, radius_field, end_numbers, joint_field, flag_field, first_teeth, second_teeth, offset_field, angle_field, reference_field, no_end, third_field}

-- ---- bytes that are 0: what stands at place p among the n from o on

zero_byte : (s : List ℕ) (o n p : ℕ) → zero_bytes s o n ≡ true → o ≤ p → p < o + n → byte_at s p ≡ 0
unfolding zero_bytes
zero_byte s o zero p h a b = absurd (omega arith)
zero_byte s o (suc n) p h a b =
    ⊎_elim (λ (e : p ≡ o + n). rw e (eqb-true (byte_at s (o + n)) 0 (and_right (zero_bytes s o n) _ h))) (λ (k : p < o + n). zero_byte s o n p (and_left (zero_bytes s o n) _ h) a k)
    (eq-or-lt_of_le {n = p} {m = o + n} (omega arith))

zero_word : (s : List ℕ) (o n p : ℕ) → zero_bytes s o n ≡ true → o ≤ p → p + 2 ≤ o + n → u16_at s p ≡ 0
zero_word s o n p h a b =
    omega (arith, zero_byte s o n p h (omega arith) (omega arith), zero_byte s o n (p + 1) h (omega arith) (omega arith))

zero_double : (s : List ℕ) (o n p : ℕ) → zero_bytes s o n ≡ true → o ≤ p → p + 8 ≤ o + n → double_at s p ≡ zero64
unfolding double_at
zero_double s o n p h a b =
    let z : (q : ℕ) → p ≤ q → q < p + 8 → byte_at s q ≡ 0 = (λ q l m. zero_byte s o n q h (omega arith) (omega arith)) in
    ap (of_bits binary64)
    (omega (
      arith,
      z p (omega arith) (omega arith),
      z (p + 1) (omega arith) (omega arith),
      z (p + 2) (omega arith) (omega arith),
      z (p + 3) (omega arith) (omega arith),
      z (p + 4) (omega arith) (omega arith),
      z (p + 5) (omega arith) (omega arith),
      z (p + 6) (omega arith) (omega arith),
      z (p + 7) (omega arith) (omega arith),
    ))

zero_vec : (s : List ℕ) (o n p : ℕ) → zero_bytes s o n ≡ true → o ≤ p → p + 24 ≤ o + n → vec_at s p ≡ zero_v
zero_vec s o n p h a b =
    λ i. record {
      x = zero_double s o n p h (omega arith) (omega arith) i;
      y = zero_double s o n (p + 8) h (omega arith) (omega arith) i;
      z = zero_double s o n (p + 16) h (omega arith) (omega arith) i;
    }

-- ---- a field that is 0 unless it is used

used_byte : (used : Bool) (most b : ℕ) (back : ℕ → ℕ) → (b ≤ most → back b ≡ b) → byte_up_to used most b ≡ true → cond used (back b) 0 ≡ b
unfolding byte_up_to
used_byte true most b back g h = g (leb-true b most h)
used_byte false most b back g h = sym (eqb-true b 0 h)

used_word : (used : Bool) (s : List ℕ) (o p : ℕ) → used_or_zero used s o 4 ≡ true → o ≤ p → p + 2 ≤ o + 4 → cond used (u16_at s p) 0 ≡ u16_at s p
unfolding used_or_zero
used_word true s o p h a b = refl
used_word false s o p h a b = sym (zero_word s o 4 p h a b)

used_double : (used : Bool) (s : List ℕ) (o : ℕ) → used_or_zero used s o 8 ≡ true → cond used (double_at s o) zero64 ≡ double_at s o
unfolding used_or_zero
used_double true s o h = refl
used_double false s o h = sym (zero_double s o 8 o h (omega arith) (omega arith))

used_vec : (used : Bool) (s : List ℕ) (o : ℕ) → used_or_zero used s o 24 ≡ true → cond used (vec_at s o) zero_v ≡ vec_at s o
unfolding used_or_zero
used_vec true s o h = refl
used_vec false s o h = sym (zero_vec s o 24 o h (omega arith) (omega arith))

-- ---- bodies

body_numbers : (s : List ℕ) (o : ℕ) → (body_parts (body_at s o)).numbers ≡ doubles_at s (o + 8) 16
unfolding body_parts body_at doubles_at
body_numbers s o = simp (add_assoc, add-zero)

pub body_parts_of : (s : List ℕ) (o : ℕ) → AllBytes s → body_fault s o ≡ 0 → body_parts (body_at s o) ≡ body_parts_at s o
unfolding body_shape body_parts body_at body_parts_at
body_parts_of s o b h =
    let shape = (body_tests s o h).0 in
    let fixed = flag_back (byte_at s o) (leb-true (byte_at s o) (flag_number true) (and_left _ _ shape)) in
    let rest = zero_byte s (o + 1) 7 (o + 1) (and_right (leb (byte_at s o) (flag_number true)) _ shape) (omega arith) (omega arith) in
    λ i. record { bytes = fixed i ∷ sym rest i ∷ []; numbers = body_numbers s o i }

-- ---- ends

-- every word of two bytes is its body's
word_back : (w : ℕ) → w < 0x1_0000 → body_word (body_number_at w) ≡ w
unfolding body_number_at by_number
word_back w h = go (eqb w GROUND) refl (ltb w NO_BODY) refl
  where
    go : (g : Bool) → eqb w GROUND ≡ g → (t : Bool) → ltb w NO_BODY ≡ t → body_word (cond g none (some w)) ≡ w
    go true e t f = sym (eqb-true w GROUND e)
    go false e true f = rw f
    go false e false f = rw f (omega (arith, eqb-false w GROUND e, ltb-false w NO_BODY f))

-- the parts of an end, at place e
record EndIs (s : List ℕ) (e : ℕ) (x : End) : Type 0 where
  kind : prim_number x.prim ≡ byte_at s e
  mirrored : flag_number x.mirrored ≡ byte_at s (e + 1)
  body : body_word x.body ≡ u16_at s (e + 2)
  numbers : end_numbers x ≡ doubles_at s (e + 8) 8

end_numbers_lem : (s : List ℕ) (e : ℕ) (x : End) → point_of x.prim ≡ vec_at s (e + 8) → direction_field x.prim ≡ vec_at s (e + 32)
    → radius_field x.prim ≡ double_at s (e + 56) → x.radius ≡ double_at s (e + 64) → end_numbers x ≡ doubles_at s (e + 8) 8
unfolding end_numbers doubles_at
end_numbers_lem s e x p d c r = rw (p, d, c, r) (simp (add_assoc, add-zero))

-- what an end's numbers take of its primitive, and that by the primitive's number: 0 where it uses none
record PrimFields : Type 0 where
  position : Vec Float
  direction : Vec Float
  radius : Float

prim_fields_of : Geo Float → PrimFields
prim_fields_of g = record { position = point_of g; direction = direction_field g; radius = radius_field g }

prim_fields_by : ℕ → Vec Float → Vec Float → Float → PrimFields
prim_fields_by n p d r = record { position = p; direction = cond (uses_direction n) d zero_v; radius = cond (uses_circle_radius n) r zero64 }

prim_fields : (n : ℕ) (p d : Vec Float) (r : Float) → n ≤ CIRCLE → prim_fields_of (prim_at n p d r) ≡ prim_fields_by n p d r
unfolding prim_at prim_fields_of prim_fields_by point_of
prim_fields n p d r h =
    case_of prim_number (λ g. prim_fields_of g ≡ prim_fields_by n p d r) n 0 _ _ (refl, (refl, (refl, refl))) (omega arith) h
    ((λ q. rw q), ((λ q. rw q), ((λ q. rw q), (λ q. rw q))))

end_is : (law : ℕ) (s : List ℕ) (e : ℕ) → AllBytes s → end_shape law s e ≡ true → EndIs s e (end_at s e)
unfolding end_shape end_at prim_fields_of prim_fields_by
end_is law s e b shape =
    let n = byte_at s e in
    let below : n ≤ CIRCLE = leb-true n CIRCLE (and_left _ _ shape) in
    let fields = prim_fields n (vec_at s (e + 8)) (vec_at s (e + 32)) (double_at s (e + 56)) below in
    record {
      kind = prim_number_lem n _ _ _ below;
      mirrored = flag_back (byte_at s (e + 1)) (up_to (uses_mirrored law) (flag_number true) (byte_at s (e + 1)) (search (and_left, and_right)));
      body = word_back (u16_at s (e + 2)) (omega (arith, b (e + 2), b (e + 2 + 1)));
      numbers =
          end_numbers_lem s e (end_at s e) (ap (λ f. f.position) fields) (ap (λ f. f.direction) fields ∙ used_vec (uses_direction n) s (e + 32) (search (and_left, and_right)))
          (ap (λ f. f.radius) fields ∙ used_double (uses_circle_radius n) s (e + 56) (search (and_left, and_right))) refl;
    }

no_end_is : (s : List ℕ) (e : ℕ) → zero_bytes s e 72 ≡ true → EndIs s e no_end
unfolding point_of
no_end_is s e h =
    record {
      kind = sym (zero_byte s e 72 e h (omega arith) (omega arith));
      mirrored = sym (zero_byte s e 72 (e + 1) h (omega arith) (omega arith));
      body = sym (zero_word s e 72 (e + 2) h (omega arith) (omega arith));
      numbers =
          end_numbers_lem s e no_end (sym (zero_vec s e 72 (e + 8) h (omega arith) (omega arith))) (sym (zero_vec s e 72 (e + 32) h (omega arith) (omega arith)))
          (sym (zero_double s e 72 (e + 56) h (omega arith) (omega arith))) (sym (zero_double s e 72 (e + 64) h (omega arith) (omega arith)));
    }

third_is : (used : Bool) (law : ℕ) (s : List ℕ) (e : ℕ) → AllBytes s → cond used (end_shape law s e) (zero_bytes s e 72) ≡ true → EndIs s e (cond used (end_at s e) no_end)
third_is true law s e b h = end_is law s e b h
third_is false law s e b h = no_end_is s e h

-- ---- relations

-- what a law's parts are made of
record LawFields : Type 0 where
  joint : ℕ
  flag : ℕ
  teeth_a : ℕ
  teeth_b : ℕ
  offset : Float
  want : Float
  reference : Vec Float
  third : End

fields_of : Law → LawFields
fields_of l =
    record {
      joint = joint_field l;
      flag = flag_field l;
      teeth_a = first_teeth l;
      teeth_b = second_teeth l;
      offset = offset_field l;
      want = angle_field l;
      reference = reference_field l;
      third = third_field l;
    }

-- by the number of the law: what it uses of the relation at r, else 0
fields_by : ℕ → List ℕ → ℕ → LawFields
fields_by n s r =
    record {
      joint = cond (uses_joint n) (joint_number (joint_kind_at (byte_at s (r + 1)))) 0;
      flag = cond (uses_flag n) (flag_number (flag_at s (r + 2))) 0;
      teeth_a = cond (uses_teeth n) (u16_at s (r + 4)) 0;
      teeth_b = cond (uses_teeth n) (u16_at s (r + 6)) 0;
      offset = cond (uses_offset n) (double_at s (r + 8)) zero64;
      want = cond (uses_angle n) (double_at s (r + 16)) zero64;
      reference = cond (uses_reference n) (vec_at s (r + 24)) zero_v;
      third = cond (uses_third n) (end_at s (r + 192)) no_end;
    }

law_fields : (n : ℕ) (s : List ℕ) (r : ℕ) → n ≤ GEAR → fields_of (law_by n s r) ≡ fields_by n s r
unfolding law_by fields_of fields_by
law_fields n s r h =
    case_of law_number (λ l. fields_of l ≡ fields_by n s r) n 0 _ _ (refl, (refl, (refl, (refl, (refl, (refl, (refl, refl))))))) (omega arith) h
    ((λ q. rw q), ((λ q. rw q), ((λ q. rw q), ((λ q. rw q), ((λ q. rw q), ((λ q. rw q), ((λ q. rw q), (λ q. rw q))))))))

-- the parts of a law, in the relation at r
record LawIs (s : List ℕ) (r : ℕ) (l : Law) : Type 0 where
  number : law_number l ≡ byte_at s r
  joint : joint_field l ≡ byte_at s (r + 1)
  flag : flag_field l ≡ byte_at s (r + 2)
  teeth_a : first_teeth l ≡ u16_at s (r + 4)
  teeth_b : second_teeth l ≡ u16_at s (r + 6)
  offset : offset_field l ≡ double_at s (r + 8)
  want : angle_field l ≡ double_at s (r + 16)
  reference : reference_field l ≡ vec_at s (r + 24)
  third : EndIs s (r + 192) (third_field l)

law_is : (s : List ℕ) (r : ℕ) → AllBytes s → rel_shape s r ≡ true → LawIs s r (law_by (byte_at s r) s r)
unfolding rel_shape third_shape fields_of fields_by
law_is s r b shape =
    let n = byte_at s r in
    let below : n ≤ GEAR = leb-true n GEAR (and_left _ _ shape) in
    let fields = law_fields n s r below in
    record {
      number = law_number_lem n s r below;
      joint =
          ap (λ f. f.joint) fields
          ∙ used_byte (uses_joint n) (joint_number Ball) (byte_at s (r + 1)) (λ k. joint_number (joint_kind_at k)) (kind_number (byte_at s (r + 1))) (search (and_left, and_right) depth 12);
      flag =
          ap (λ f. f.flag) fields
          ∙ used_byte (uses_flag n) (flag_number true) (byte_at s (r + 2)) (λ k. flag_number (eqb k (flag_number true))) (flag_back (byte_at s (r + 2))) (search (and_left, and_right) depth 12);
      teeth_a = ap (λ f. f.teeth_a) fields ∙ used_word (uses_teeth n) s (r + 4) (r + 4) (search (and_left, and_right) depth 12) (omega arith) (omega arith);
      teeth_b = ap (λ f. f.teeth_b) fields ∙ used_word (uses_teeth n) s (r + 4) (r + 6) (search (and_left, and_right) depth 12) (omega arith) (omega arith);
      offset = ap (λ f. f.offset) fields ∙ used_double (uses_offset n) s (r + 8) (search (and_left, and_right) depth 12);
      want = ap (λ f. f.want) fields ∙ used_double (uses_angle n) s (r + 16) (search (and_left, and_right) depth 12);
      reference = ap (λ f. f.reference) fields ∙ used_vec (uses_reference n) s (r + 24) (search (and_left, and_right) depth 12);
      third =
          subst (EndIs s (r + 192)) (sym (ap (λ f. f.third) fields)) (third_is (uses_third n) n s (r + 192) b (search (and_left, and_right) depth 12));
    }

-- the parts of the relation at r whose ends stand at a, b and c
pieces_at : List ℕ → ℕ → ℕ → ℕ → ℕ → RelParts
pieces_at s r a b c =
    record {
      bytes =
          byte_at s r
          ∷ byte_at s (r + 1)
          ∷ byte_at s (r + 2)
          ∷ byte_at s a
          ∷ byte_at s (a + 1)
          ∷ byte_at s b
          ∷ byte_at s (b + 1)
          ∷ byte_at s c
          ∷ byte_at s (c + 1)
          ∷ [];
      words = u16_at s (r + 4) ∷ u16_at s (r + 6) ∷ u16_at s (a + 2) ∷ u16_at s (b + 2) ∷ u16_at s (c + 2) ∷ [];
      numbers =
          double_at s (r + 8)
          ∷ double_at s (r + 16)
          ∷ (vec_at s (r + 24)).x
          ∷ (vec_at s (r + 24)).y
          ∷ (vec_at s (r + 24)).z
          ∷ (doubles_at s (a + 8) 8 ++ (doubles_at s (b + 8) 8 ++ doubles_at s (c + 8) 8));
    }

pieces : (s : List ℕ) (r : ℕ) → pieces_at s r (r + 48) (r + 120) (r + 192) ≡ rel_parts_at s r
unfolding pieces_at rel_parts_at doubles_at
pieces s r = simp (add_assoc, add-zero)

pub rel_parts_of : (m : ℕ) (s : List ℕ) (r : ℕ) → AllBytes s → rel_fault m s r ≡ 0 → rel_parts (rel_at s r) ≡ rel_parts_at s r
unfolding rel_shape rel_at rel_parts pieces_at
rel_parts_of m s r bytes h =
    let shape = (rel_tests m s r h).0 in
    let l = law_is s r bytes shape in
    let a = end_is (byte_at s r) s (r + 48) bytes (search (and_left, and_right) depth 12) in
    let b = end_is (byte_at s r) s (r + 120) bytes (search (and_left, and_right) depth 12) in
    let c = l.third in
    let all : rel_parts (rel_at s r) ≡ pieces_at s r (r + 48) (r + 120) (r + 192) =
    λ i. record {
      bytes =
          l.number i
          ∷ l.joint i
          ∷ l.flag i
          ∷ a.kind i
          ∷ a.mirrored i
          ∷ b.kind i
          ∷ b.mirrored i
          ∷ c.kind i
          ∷ c.mirrored i
          ∷ [];
      words = l.teeth_a i ∷ l.teeth_b i ∷ a.body i ∷ b.body i ∷ c.body i ∷ [];
      numbers = l.offset i ∷ l.want i ∷ (l.reference i).x ∷ (l.reference i).y ∷ (l.reference i).z ∷ (a.numbers i ++ (b.numbers i ++ c.numbers i));
    }
    in
    all ∙ pieces s r
