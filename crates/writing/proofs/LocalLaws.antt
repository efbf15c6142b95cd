-- A record's number and its parts depend on its own bytes alone. Where the bytes of two records agree, so does every number that is read of them, hence each of the tests,
-- hence the fault. By the places of the fields, each within its record. Assumes nothing.
use Prim.Native.Nat.{ℕ, zero, suc, ◌+◌, ◌*◌, ◌≤◌, ◌<◌}
use mathlib.Core.Path.{◌≡◌, refl}
use mathlib.Core.Bool.{Bool}
use mathlib.Core.List.{List}
use native.Mathlib.Nat.{add_assoc, add-zero, zero-add, mul-suc}
use native.Mathlib.Omega.{arith}
use lib.ListN.{take, drop}
use lib.Seq.{get_or-take, get_or-drop}
use Rattle.records.specs.Record.{byte_at, u16_at, double_at, vec_at, zero_bytes}
use Rattle.format.specs.Faults.{used_or_zero, body_shape, end_shape, third_shape, rel_shape, rel_teeth, end_names, rel_names, body_limits, end_limits, rel_limits, body_fault, rel_fault}
use Rattle.writing.specs.Writing.{doubles_at, body_parts_at, rel_parts_at}

-- the n bytes of s from place o on are those of t from place p on
abbrev pub Same : List ℕ → ℕ → List ℕ → ℕ → ℕ → Type 0
Same s o t p n = (i : ℕ) → i < n → byte_at s (o + i) ≡ byte_at t (p + i)

-- the bytes that are taken out of a list are its own
pub own_bytes : (s : List ℕ) (o n : ℕ) → Same s o (take n (drop o s)) 0 n
own_bytes s o n i h = rw (zero-add i, get_or-take n (drop o s) i 0 h, get_or-drop)

-- ---- numbers

module _ (s : List ℕ) (o : ℕ) (t : List ℕ) (p : ℕ) where
  pub same_part : (n : ℕ) → Same s o t p n → (a k : ℕ) → a + k ≤ n → Same s (o + a) t (p + a) k
  same_part n h a k l i m = rw (add_assoc o a i, add_assoc p a i) (h (a + i) (omega arith))

  pub same_less : (n : ℕ) → Same s o t p n → (k : ℕ) → k ≤ n → Same s o t p k
  same_less n h k l i m = h i (omega arith)

  pub byte_same : (n : ℕ) → Same s o t p n → 0 < n → byte_at s o ≡ byte_at t p
  byte_same n h l = rw (add-zero o, add-zero p) at (h 0 l)

  pub zeros_same : (n : ℕ) → Same s o t p n → zero_bytes s o n ≡ zero_bytes t p n
  unfolding zero_bytes
  zeros_same zero h = refl
  zeros_same (suc n) h = rw (zeros_same n (same_less (suc n) h n (omega arith)), h n (omega arith))

  pub u16_same : Same s o t p 2 → u16_at s o ≡ u16_at t p
  u16_same h = rw (byte_same 2 h (omega arith), h 1 (omega arith))

  pub double_same : Same s o t p 8 → double_at s o ≡ double_at t p
  unfolding double_at
  double_same h =
      rw (byte_same 8 h (omega arith), h 1 (omega arith), h 2 (omega arith), h 3 (omega arith), h 4 (omega arith), h 5 (omega arith), h 6 (omega arith), h 7 (omega arith))

pub vec_same : (s : List ℕ) (o : ℕ) (t : List ℕ) (p : ℕ) → Same s o t p 24 → vec_at s o ≡ vec_at t p
vec_same s o t p h =
    rw (
      double_same s o t p (same_less s o t p 24 h 8 (omega arith)),
      double_same s (o + 8) t (p + 8) (same_part s o t p 24 h 8 8 (omega arith)),
      double_same s (o + 16) t (p + 16) (same_part s o t p 24 h 16 8 (omega arith)),
    )

pub doubles_same : (s : List ℕ) (o : ℕ) (t : List ℕ) (p n : ℕ) → Same s o t p (8 * n) → doubles_at s o n ≡ doubles_at t p n
unfolding doubles_at
doubles_same s o t p zero h = refl
doubles_same s o t p (suc n) h =
    let m = mul-suc 8 n in
    rw (
      doubles_same s o t p n (same_less s o t p (8 * suc n) h (8 * n) (omega arith)),
      double_same s (o + 8 * n) t (p + 8 * n) (same_part s o t p (8 * suc n) h (8 * n) 8 (omega arith)),
    )

-- ---- fields of a record of n bytes, each by its place in the record

module _ (s : List ℕ) (o : ℕ) (t : List ℕ) (p n : ℕ) (h : Same s o t p n) where
  u16_field : (a : ℕ) → a + 2 ≤ n → u16_at s (o + a) ≡ u16_at t (p + a)
  u16_field a l = u16_same s (o + a) t (p + a) (same_part s o t p n h a 2 l)

  double_field : (a : ℕ) → a + 8 ≤ n → double_at s (o + a) ≡ double_at t (p + a)
  double_field a l = double_same s (o + a) t (p + a) (same_part s o t p n h a 8 l)

  vec_field : (a : ℕ) → a + 24 ≤ n → vec_at s (o + a) ≡ vec_at t (p + a)
  vec_field a l = vec_same s (o + a) t (p + a) (same_part s o t p n h a 24 l)

  doubles_field : (a k : ℕ) → a + 8 * k ≤ n → doubles_at s (o + a) k ≡ doubles_at t (p + a) k
  doubles_field a k l = doubles_same s (o + a) t (p + a) k (same_part s o t p n h a (8 * k) l)

  zeros_field : (a k : ℕ) → a + k ≤ n → zero_bytes s (o + a) k ≡ zero_bytes t (p + a) k
  zeros_field a k l = zeros_same s (o + a) t (p + a) k (same_part s o t p n h a k l)

  used_field : (used : Bool) (a k : ℕ) → a + k ≤ n → used_or_zero used s (o + a) k ≡ used_or_zero used t (p + a) k
  unfolding used_or_zero
  used_field used a k l = rw (zeros_field a k l)

-- ---- a body: 136 bytes

module _ (s : List ℕ) (o : ℕ) (t : List ℕ) (p : ℕ) (h : Same s o t p 136) where
  body_shape_same : body_shape s o ≡ body_shape t p
  unfolding body_shape
  body_shape_same = rw (byte_same s o t p 136 h (omega arith), zeros_field s o t p 136 h 1 7 (omega arith))

  body_limits_same : body_limits s o ≡ body_limits t p
  unfolding body_limits
  body_limits_same =
      rw (
        vec_field s o t p 136 h 8 (omega arith),
        vec_field s o t p 136 h 32 (omega arith),
        vec_field s o t p 136 h 56 (omega arith),
        vec_field s o t p 136 h 80 (omega arith),
        vec_field s o t p 136 h 104 (omega arith),
        double_field s o t p 136 h 128 (omega arith),
      )

  pub body_fault_same : body_fault s o ≡ body_fault t p
  unfolding body_fault
  body_fault_same = rw (body_shape_same, body_limits_same)

  pub body_parts_same : body_parts_at s o ≡ body_parts_at t p
  unfolding body_parts_at
  body_parts_same = rw (byte_same s o t p 136 h (omega arith), h 1 (omega arith), doubles_field s o t p 136 h 8 16 (omega arith))

-- ---- an end: 72 bytes

module _ (s : List ℕ) (e : ℕ) (t : List ℕ) (f : ℕ) (h : Same s e t f 72) where
  end_shape_same : (law : ℕ) → end_shape law s e ≡ end_shape law t f
  unfolding end_shape
  end_shape_same law =
      rw (
        byte_same s e t f 72 h (omega arith),
        h 1 (omega arith),
        zeros_field s e t f 72 h 4 4 (omega arith),
        used_field s e t f 72 h _ 32 24 (omega arith),
        used_field s e t f 72 h _ 56 8 (omega arith),
        used_field s e t f 72 h _ 64 8 (omega arith),
      )

  third_shape_same : (law : ℕ) → third_shape law s e ≡ third_shape law t f
  unfolding third_shape
  third_shape_same law = rw (end_shape_same law, zeros_same s e t f 72 h)

  end_names_same : (m : ℕ) → end_names m s e ≡ end_names m t f
  unfolding end_names
  end_names_same m = rw (u16_field s e t f 72 h 2 (omega arith))

  end_limits_same : end_limits s e ≡ end_limits t f
  unfolding end_limits
  end_limits_same =
      rw (
        vec_field s e t f 72 h 8 (omega arith),
        vec_field s e t f 72 h 32 (omega arith),
        double_field s e t f 72 h 56 (omega arith),
        double_field s e t f 72 h 64 (omega arith),
      )

-- ---- a relation: 264 bytes

module _ (s : List ℕ) (r : ℕ) (t : List ℕ) (q : ℕ) (h : Same s r t q 264) where
  -- its ends
  a_same : Same s (r + 48) t (q + 48) 72
  a_same = same_part s r t q 264 h 48 72 (omega arith)

  b_same : Same s (r + 120) t (q + 120) 72
  b_same = same_part s r t q 264 h 120 72 (omega arith)

  third_same : Same s (r + 192) t (q + 192) 72
  third_same = same_part s r t q 264 h 192 72 (omega arith)

  law_same : byte_at s r ≡ byte_at t q
  law_same = byte_same s r t q 264 h (omega arith)

  rel_shape_same : rel_shape s r ≡ rel_shape t q
  unfolding rel_shape
  rel_shape_same =
      rw (
        law_same,
        h 1 (omega arith),
        h 2 (omega arith),
        zeros_field s r t q 264 h 3 1 (omega arith),
        used_field s r t q 264 h _ 4 4 (omega arith),
        used_field s r t q 264 h _ 8 8 (omega arith),
        used_field s r t q 264 h _ 16 8 (omega arith),
        used_field s r t q 264 h _ 24 24 (omega arith),
        end_shape_same s (r + 48) t (q + 48) a_same,
        end_shape_same s (r + 120) t (q + 120) b_same,
        third_shape_same s (r + 192) t (q + 192) third_same,
      )

  rel_teeth_same : rel_teeth s r ≡ rel_teeth t q
  unfolding rel_teeth
  rel_teeth_same = rw (law_same, u16_field s r t q 264 h 4 (omega arith), u16_field s r t q 264 h 6 (omega arith))

  rel_names_same : (m : ℕ) → rel_names m s r ≡ rel_names m t q
  unfolding rel_names
  rel_names_same m =
      rw (
        law_same,
        end_names_same s (r + 48) t (q + 48) a_same m,
        end_names_same s (r + 120) t (q + 120) b_same m,
        end_names_same s (r + 192) t (q + 192) third_same m,
      )

  rel_limits_same : rel_limits s r ≡ rel_limits t q
  unfolding rel_limits
  rel_limits_same =
      rw (
        double_field s r t q 264 h 8 (omega arith),
        double_field s r t q 264 h 16 (omega arith),
        vec_field s r t q 264 h 24 (omega arith),
        end_limits_same s (r + 48) t (q + 48) a_same,
        end_limits_same s (r + 120) t (q + 120) b_same,
        end_limits_same s (r + 192) t (q + 192) third_same,
      )

  pub rel_fault_same : (m : ℕ) → rel_fault m s r ≡ rel_fault m t q
  unfolding rel_fault
  rel_fault_same m = rw (rel_shape_same, rel_teeth_same, rel_names_same m, rel_limits_same)

  pub rel_parts_same : rel_parts_at s r ≡ rel_parts_at t q
  unfolding rel_parts_at
  rel_parts_same =
      rw (
        law_same,
        h 1 (omega arith),
        h 2 (omega arith),
        h 48 (omega arith),
        h 49 (omega arith),
        h 120 (omega arith),
        h 121 (omega arith),
        h 192 (omega arith),
        h 193 (omega arith),
        u16_field s r t q 264 h 4 (omega arith),
        u16_field s r t q 264 h 6 (omega arith),
        u16_field s r t q 264 h 50 (omega arith),
        u16_field s r t q 264 h 122 (omega arith),
        u16_field s r t q 264 h 194 (omega arith),
        doubles_field s r t q 264 h 8 5 (omega arith),
        doubles_field s r t q 264 h 56 8 (omega arith),
        doubles_field s r t q 264 h 128 8 (omega arith),
        doubles_field s r t q 264 h 200 8 (omega arith),
      )
