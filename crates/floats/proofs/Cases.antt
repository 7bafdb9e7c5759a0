-- The helpers at the places where a wrong one would show: zeros of both signs, a NaN on either side, subnormals, the tolerance's order.
-- One table, closed by computing; floats are compared by their bits. Assumes nothing.
use Prim.Native.Nat.{ℕ}
use mathlib.Core.Path.{◌≡◌, refl}
use mathlib.Core.Bool.{Bool, true, not}
use mathlib.Core.List.{List, [], ◌∷◌}
use lib.Dec.{eqb}
use lib.Ieee.{Float, nan, binary32, of_bits, of_fields, to_bits, lt, le, mul, round, units, odd, size, span, climb, is_nan}
use Rattle.commons.specs.Tests.{all_of}
use Rattle.floats.specs.Helpers.{max_of, min_of, sign_of, abs_of, tol_of, near_zero}

-- the float of these bits, and whether a float has them
of : ℕ → Float
of b = of_bits binary32 b

is : Float → ℕ → Bool
is x b = eqb (to_bits binary32 x) b

pub cases : List Bool
cases =
    -- max and min of 1.0 and a NaN, either way round; of two NaNs
    is (max_of (of 0x3f800000) nan) 0x3f800000
    ∷ is (max_of nan (of 0x3f800000)) 0x3f800000
    ∷ is (min_of (of 0x3f800000) nan) 0x3f800000
    ∷ is (min_of nan (of 0x3f800000)) 0x3f800000
    ∷ is_nan (max_of nan nan)
    -- the first of two zeros
    ∷ is (max_of (of 0x80000000) (of 0)) 0x80000000
    ∷ is (max_of (of 0) (of 0x80000000)) 0
    ∷ is (min_of (of 0x80000000) (of 0)) 0x80000000
    ∷ is (min_of (of 0) (of 0x80000000)) 0
    -- the sign of -0.0, of minus infinity, of the smallest subnormal
    ∷ sign_of (of 0x80000000)
    ∷ sign_of (of 0xff800000)
    ∷ not (sign_of (of 1))
    ∷ is (abs_of (of 0x80000000)) 0
    ∷ is (abs_of (of 0x80000001)) 1
    -- EPSILON counts as nothing, the next float does not, nor a NaN
    ∷ near_zero (of 0x34000000)
    ∷ near_zero (of 0xb4000000)
    ∷ not (near_zero (of 0x34000001))
    ∷ not (near_zero nan)
    -- tol(1) is 1000 * 2 ^ -23; tol(8388) is below one chip, tol(8389) above; tol(2 ^ -126) loses all but its last product's bits
    ∷ is (tol_of (of 0x3f800000)) 0x38fa0000
    ∷ lt (tol_of (of 0x46031000)) (of 0x3f800000)
    ∷ lt (of 0x3f800000) (tol_of (of 0x46031400))
    ∷ is (tol_of (of 0x00800000)) 1000
    ∷ is (tol_of (of 0x007fffff)) 1000
    ∷ []

pub right : all_of cases ≡ true
unfolding cases of is max_of min_of sign_of abs_of tol_of near_zero of_bits of_fields to_bits lt le mul round units odd size span climb is_nan
right = refl
