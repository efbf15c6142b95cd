-- The cases that document 01 marks with ● and that the definitions of arcs and the solver decide, as one table and one statement: each line's two numbers are the same bits.
-- "What a call says", last paragraphs. proofs/CaseLaws.antt has the proof, `marked_cases`. Definitions and statements.
use Rattle.std.specs.Prelude.{◌≡◌, Bool, true, false, List, [], ◌∷◌, Float}
use Rattle.std.proofs.Math.Option.{none, some}
use Rattle.std.specs.Float.{nan, inf, binary64}
use Rattle.std.specs.Float.Ieee.{neg, of_bits}
use Rattle.numbers.specs.Double.{zero64, one64}
use Rattle.numbers.specs.MaxAbs.{max_abs}
use Rattle.arcs.specs.Root.{root}
use Rattle.arcs.specs.Arcs.{arctangent}
use Rattle.vectors.specs.Vec.{zero_v}
use Rattle.vectors.specs.Space.{world}
use Rattle.relations.specs.Geometry.{point}
use Rattle.relations.specs.Model.{Body, Rel, mate}
use Rattle.relations.specs.Rows.{wrap, tangent_gap}
use Rattle.scene.specs.Solve.{half_size, solve}
use Rattle.body_freedom.specs.Dof.{dof}

-- a number that a definition gives, beside the one that the paper gives
pub record Case : Type 0 where
  pub given : Float
  pub paper : Float

-- π, -π, and small numbers
abbrev pub pi : Float
pi = of_bits binary64 0x4009_21FB_5444_2D18

abbrev pub minus_pi : Float
minus_pi = of_bits binary64 0xC009_21FB_5444_2D18

abbrev pub two : Float
two = of_bits binary64 0x4000_0000_0000_0000

abbrev pub three : Float
three = of_bits binary64 0x4008_0000_0000_0000

abbrev pub half : Float
half = of_bits binary64 0x3FE0_0000_0000_0000

unfoldable pub table : List Case
table =
    -- wrapping π or -π gives π
    record { given = wrap pi; paper = pi }
    ∷ record { given = wrap minus_pi; paper = pi }
    -- half size of 2 is 1, of 3 is 1.5
    ∷ record { given = half_size two; paper = one64 }
    ∷ record { given = half_size three; paper = of_bits binary64 0x3FF8_0000_0000_0000 }
    -- tangent gap of 2, 3, offset 0.5: outside 5.5, inside 1.5, plane 3.5, plane inside -2.5
    ∷ record { given = tangent_gap two three half false false; paper = of_bits binary64 0x4016_0000_0000_0000 }
    ∷ record { given = tangent_gap two three half true false; paper = of_bits binary64 0x3FF8_0000_0000_0000 }
    ∷ record { given = tangent_gap two three half false true; paper = of_bits binary64 0x400C_0000_0000_0000 }
    ∷ record { given = tangent_gap two three half true true; paper = of_bits binary64 0xC004_0000_0000_0000 }
    -- root of 2
    ∷ record { given = root two; paper = of_bits binary64 0x3FF6_A09E_667F_3BCD }
    -- largest of (1, -3, 2) is 3; of none, 0; with a NaN, infinity
    ∷ record { given = max_abs (one64 ∷ neg three ∷ two ∷ []); paper = three }
    ∷ record { given = max_abs []; paper = zero64 }
    ∷ record { given = max_abs (one64 ∷ nan ∷ two ∷ []); paper = inf false }
    -- arctangent of (+0, -1) is π, of (-0, -1) -π
    ∷ record { given = arctangent zero64 (neg one64); paper = pi }
    ∷ record { given = arctangent (neg zero64) (neg one64); paper = minus_pi }
    ∷ []

abbrev pub givens : List Case → List Float
givens [] = []
givens (c ∷ l) = c.given ∷ givens l

abbrev pub papers : List Case → List Float
papers [] = []
papers (c ∷ l) = c.paper ∷ papers l

-- a body with the frame of Frame::WORLD, centre 0, size 2
abbrev pub body : Bool → Body
body held = record { frame = world; fixed = held; center = zero_v; size = two }

-- a mate with offset 0 of the ground's point (d, 0, 0) and body 0's point 0
abbrev pub off : Float → Rel
off d =
    record {
      law = mate zero64;
      a = record { body = none; prim = point (record { x = d; y = zero64; z = zero64 }); radius = zero64; mirrored = false };
      b = record { body = some 0; prim = point zero_v; radius = zero64; mirrored = false };
    }

-- No relations: converged. A fixed point off by 1e-9: converged; by the next double: not.
pub record Flags : Type 0 where
  pub none_asked : (solve (record { bodies = body false ∷ []; rels = [] }) none).converged ≡ true
  pub at_limit : (solve (record { bodies = body true ∷ []; rels = off (of_bits binary64 0x3E11_2E0B_E826_D695) ∷ [] }) none).converged ≡ true
  pub past_limit : (solve (record { bodies = body true ∷ []; rels = off (of_bits binary64 0x3E11_2E0B_E826_D696) ∷ [] }) none).converged ≡ false
  -- unnamed free body: 6
  pub unnamed : (dof (record { bodies = body false ∷ []; rels = [] })).total ≡ 6

-- every line of the table, and the flags
pub record Marked : Type 0 where
  pub numbers : givens table ≡ papers table
  pub flags : Flags
