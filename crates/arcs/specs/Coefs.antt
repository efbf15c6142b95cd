-- The coefficients of the three polynomials, the lowest power first, by bits. Document 01, "The train of files", item 1: "coefficients nearest ±1/j!" and
-- "coefficients nearest ±1/j for j = 1, 3 to 39". proofs/NearestLaws.antt shows that each is the nearest double. Definitions only.
use Rattle.std.specs.Prelude.{List, [], ◌∷◌, Float}
use Rattle.std.specs.Float.{binary64}
use Rattle.std.specs.Float.Ieee.{of_bits}

-- 1, -1/3!, 1/5!, .. 1/17!
abbrev pub sine_coefs : List Float
sine_coefs =
    of_bits binary64 0x3FF0_0000_0000_0000 ∷
    of_bits binary64 0xBFC5_5555_5555_5555 ∷
    of_bits binary64 0x3F81_1111_1111_1111 ∷
    of_bits binary64 0xBF2A_01A0_1A01_A01A ∷
    of_bits binary64 0x3EC7_1DE3_A556_C734 ∷
    of_bits binary64 0xBE5A_E645_67F5_44E4 ∷
    of_bits binary64 0x3DE6_1246_13A8_6D09 ∷
    of_bits binary64 0xBD6A_E7F3_E733_B81F ∷
    of_bits binary64 0x3CE9_52C7_7030_AD4A ∷
    []

-- 1, -1/2!, 1/4!, .. 1/16!
abbrev pub cosine_coefs : List Float
cosine_coefs =
    of_bits binary64 0x3FF0_0000_0000_0000 ∷
    of_bits binary64 0xBFE0_0000_0000_0000 ∷
    of_bits binary64 0x3FA5_5555_5555_5555 ∷
    of_bits binary64 0xBF56_C16C_16C1_6C17 ∷
    of_bits binary64 0x3EFA_01A0_1A01_A01A ∷
    of_bits binary64 0xBE92_7E4F_B778_9F5C ∷
    of_bits binary64 0x3E21_EED8_EFF8_D898 ∷
    of_bits binary64 0xBDA9_3974_A8C0_7C9D ∷
    of_bits binary64 0x3D2A_E7F3_E733_B81F ∷
    []

-- 1, -1/3, 1/5, .. -1/39
abbrev pub arctangent_coefs : List Float
arctangent_coefs =
    of_bits binary64 0x3FF0_0000_0000_0000 ∷
    of_bits binary64 0xBFD5_5555_5555_5555 ∷
    of_bits binary64 0x3FC9_9999_9999_999A ∷
    of_bits binary64 0xBFC2_4924_9249_2492 ∷
    of_bits binary64 0x3FBC_71C7_1C71_C71C ∷
    of_bits binary64 0xBFB7_45D1_745D_1746 ∷
    of_bits binary64 0x3FB3_B13B_13B1_3B14 ∷
    of_bits binary64 0xBFB1_1111_1111_1111 ∷
    of_bits binary64 0x3FAE_1E1E_1E1E_1E1E ∷
    of_bits binary64 0xBFAA_F286_BCA1_AF28 ∷
    of_bits binary64 0x3FA8_6186_1861_8618 ∷
    of_bits binary64 0xBFA6_42C8_590B_2164 ∷
    of_bits binary64 0x3FA4_7AE1_47AE_147B ∷
    of_bits binary64 0xBFA2_F684_BDA1_2F68 ∷
    of_bits binary64 0x3FA1_A7B9_611A_7B96 ∷
    of_bits binary64 0xBFA0_8421_0842_1084 ∷
    of_bits binary64 0x3F9F_07C1_F07C_1F08 ∷
    of_bits binary64 0xBF9D_41D4_1D41_D41D ∷
    of_bits binary64 0x3F9B_ACF9_14C1_BAD0 ∷
    of_bits binary64 0xBF9A_41A4_1A41_A41A ∷
    []
