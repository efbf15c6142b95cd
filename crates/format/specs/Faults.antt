-- Which number a sheet gives, or 0 for none, for any bytes. Document 01, "What a call says", the table of refusals: tests 1 to 4, then each record in order by 5, 6, 7;
-- document 02, 1/14, for the gear and for test 14, between a relation's 5 and its 6. Definitions only.
use Rattle.std.specs.Prelude.{ℕ, zero, suc, ◌+◌, Bool, true, not, ◌&&◌, ◌||◌, cond, List, length, eqb, leb, ltb}
use Rattle.relations.specs.declared.model.JointKind.TheVariants.{Ball}
use Rattle.records.specs.Numbers.{GEAR, CIRCLE, joint_number, flag_number, GROUND}
use Rattle.records.specs.Record.{byte_at, u16_at, u32_at, double_at, vec_at, zero_bytes, uses_offset, uses_angle, uses_reference, uses_flag, uses_joint, uses_mirrored, uses_teeth, uses_end_radius, uses_third, uses_direction, uses_circle_radius}
use Rattle.records.specs.Limits.{UNIT_LIMIT, THOUSAND, within, within_v}
use Rattle.format.specs.Format.{bodies_of, relations_of, body_start, rel_start}

-- the first of two tests' numbers that is not 0; the second is asked only where the first gives 0
abbrev pub or_else : ℕ → ℕ → ℕ
or_else zero b = b
or_else (suc a) b = suc a

-- the number where the test fails
abbrev pub unless : Bool → ℕ → ℕ
unless ok number = cond ok 0 number

-- ---- 1 to 4: the header

unfoldable pub header_zeros : List ℕ → Bool
header_zeros s = eqb (u16_at s 0) 1 && (eqb (u16_at s 6) 0 && eqb (u32_at s 20) 0)

unfoldable pub header_counts : List ℕ → Bool
header_counts s = leb (bodies_of s) 64 && leb (relations_of s) 128

unfoldable pub header_offsets : List ℕ → Bool
header_offsets s =
    eqb (u32_at s 8) 24
    && (eqb (u32_at s 12) (body_start (bodies_of s)) && (eqb (u32_at s 16) (rel_start (bodies_of s) (relations_of s)) && eqb (length s) (rel_start (bodies_of s) (relations_of s))))

unfoldable pub header_fault : List ℕ → ℕ
header_fault s =
    cond (leb 24 (length s)) (cond (header_zeros s) (cond (header_counts s) (unless (header_offsets s) 4) 3) 2) 1

-- ---- 5: bytes within their values, up to the number of the last case; unused fields 0

-- a byte that is up to `most` where it is used, and 0 else
unfoldable pub byte_up_to : Bool → ℕ → ℕ → Bool
byte_up_to used most b = cond used (leb b most) (eqb b 0)

-- n bytes from o on, 0 unless they are used
unfoldable pub used_or_zero : Bool → List ℕ → ℕ → ℕ → Bool
used_or_zero used s o n = used || zero_bytes s o n

unfoldable pub body_shape : List ℕ → ℕ → Bool
body_shape s o = leb (byte_at s o) (flag_number true) && zero_bytes s (o + 1) 7

unfoldable pub end_shape : ℕ → List ℕ → ℕ → Bool
end_shape law s e =
    leb (byte_at s e) CIRCLE
    && (byte_up_to (uses_mirrored law) (flag_number true) (byte_at s (e + 1))
    && (zero_bytes s (e + 4) 4
    && (used_or_zero (uses_direction (byte_at s e)) s (e + 32) 24 && (used_or_zero (uses_circle_radius (byte_at s e)) s (e + 56) 8 && used_or_zero (uses_end_radius law) s (e + 64) 8))))

-- the third end, all 0 unless it is used
unfoldable pub third_shape : ℕ → List ℕ → ℕ → Bool
third_shape law s e = cond (uses_third law) (end_shape law s e) (zero_bytes s e 72)

unfoldable pub rel_shape : List ℕ → ℕ → Bool
rel_shape s r =
    let law = byte_at s r in
    leb law GEAR
    && (byte_up_to (uses_joint law) (joint_number Ball) (byte_at s (r + 1))
    && (byte_up_to (uses_flag law) (flag_number true) (byte_at s (r + 2))
    && (zero_bytes s (r + 3) 1
    && (used_or_zero (uses_teeth law) s (r + 4) 4
    && (used_or_zero (uses_offset law) s (r + 8) 8
    && (used_or_zero (uses_angle law) s (r + 16) 8
    && (used_or_zero (uses_reference law) s (r + 24) 24
    && (end_shape law s (r + 48) && (end_shape law s (r + 120) && third_shape law s (r + 192))))))))))

-- ---- 14: the wheels of a gear have 1 to 400 teeth

abbrev pub MOST_TEETH : ℕ
MOST_TEETH = 400

unfoldable pub teeth_fit : ℕ → Bool
teeth_fit n = leb 1 n && leb n MOST_TEETH

unfoldable pub rel_teeth : List ℕ → ℕ → Bool
rel_teeth s r = not (uses_teeth (byte_at s r)) || (teeth_fit (u16_at s (r + 4)) && teeth_fit (u16_at s (r + 6)))

-- ---- 6: every end that is used names a body or the ground

unfoldable pub end_names : ℕ → List ℕ → ℕ → Bool
end_names m s e = eqb (u16_at s (e + 2)) GROUND || ltb (u16_at s (e + 2)) m

unfoldable pub rel_names : ℕ → List ℕ → ℕ → Bool
rel_names m s r = end_names m s (r + 48) && (end_names m s (r + 120) && (not (uses_third (byte_at s r)) || end_names m s (r + 192)))

-- ---- 7: doubles within their limits; a NaN is not

unfoldable pub body_limits : List ℕ → ℕ → Bool
body_limits s o =
    within_v THOUSAND (vec_at s (o + 8))
    && (within_v UNIT_LIMIT (vec_at s (o + 32))
    && (within_v UNIT_LIMIT (vec_at s (o + 56))
    && (within_v UNIT_LIMIT (vec_at s (o + 80)) && (within_v THOUSAND (vec_at s (o + 104)) && within THOUSAND (double_at s (o + 128))))))

unfoldable pub end_limits : List ℕ → ℕ → Bool
end_limits s e =
    within_v THOUSAND (vec_at s (e + 8))
    && (within_v UNIT_LIMIT (vec_at s (e + 32)) && (within THOUSAND (double_at s (e + 56)) && within THOUSAND (double_at s (e + 64))))

-- an unused field is 0 by then, and 0 is within every limit
unfoldable pub rel_limits : List ℕ → ℕ → Bool
rel_limits s r =
    within THOUSAND (double_at s (r + 8))
    && (within THOUSAND (double_at s (r + 16))
    && (within_v UNIT_LIMIT (vec_at s (r + 24)) && (end_limits s (r + 48) && (end_limits s (r + 120) && end_limits s (r + 192)))))

-- ---- the records in order

unfoldable pub body_fault : List ℕ → ℕ → ℕ
body_fault s o = cond (body_shape s o) (unless (body_limits s o) 7) 5

unfoldable pub rel_fault : ℕ → List ℕ → ℕ → ℕ
rel_fault m s r = cond (rel_shape s r) (cond (rel_teeth s r) (cond (rel_names m s r) (unless (rel_limits s r) 7) 6) 14) 5

-- the first fault among the first i bodies, and among the first j relations
unfoldable pub bodies_fault : List ℕ → ℕ → ℕ
bodies_fault s zero = 0
bodies_fault s (suc i) = or_else (bodies_fault s i) (body_fault s (body_start i))

unfoldable pub rels_fault : List ℕ → ℕ → ℕ
rels_fault s zero = 0
rels_fault s (suc j) = or_else (rels_fault s j) (rel_fault (bodies_of s) s (rel_start (bodies_of s) j))

-- 1 to 7 and 14: what every call asks of the sheet
unfoldable pub sheet_fault : List ℕ → ℕ
sheet_fault s = or_else (header_fault s) (or_else (bodies_fault s (bodies_of s)) (rels_fault s (relations_of s)))
