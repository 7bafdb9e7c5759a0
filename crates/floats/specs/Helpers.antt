-- Section 2, floats, over the logic's account of IEEE 754. Definitions only.
use Rattle.std.specs.Prelude.{Bool, false, cond, pos, negsuc, Float}
use Rattle.std.specs.Float.{nan, inf, fin, binary32}
use Rattle.std.specs.Float.Ieee.{lt, le, mul, is_nan}

-- R2.3: the larger; a NaN gives way to the other one, since it is below nothing, and of two equal ones the first is given
unfoldable pub max_of : Float → Float → Float
max_of a b = cond (is_nan a) b (cond (lt a b) b a)

-- R2.4: the smaller, likewise
unfoldable pub min_of : Float → Float → Float
min_of a b = cond (is_nan a) b (cond (lt b a) b a)

-- R2.5: whether the sign bit is set, that of a zero and of an infinity too; a NaN has no sign here
unfoldable pub sign_of : Float → Bool
sign_of nan = false
sign_of (inf s) = s
sign_of (fin s m e) = s

-- R2.6: the number without its sign
unfoldable pub abs_of : Float → Float
abs_of nan = nan
abs_of (inf s) = inf false
abs_of (fin s m e) = fin false m e

-- R2.7: EPSILON, 2 ^ -23
abbrev pub epsilon : Float
epsilon = fin false 1 (negsuc 22)

-- R2.7: 1000, which is 125 * 2 ^ 3
abbrev pub thousand : Float
thousand = fin false 125 (pos 3)

-- R2.1: two floats that many rules name
abbrev pub one : Float
one = fin false 1 (pos 0)

abbrev pub zerof : Float
zerof = fin false 0 (pos 0)

-- R2.7: tol(x), two products: by EPSILON first, and what comes of it by 1000
unfoldable pub tol_of : Float → Float
tol_of x = mul binary32 (mul binary32 x epsilon) thousand

-- R2.8: |x| is at or below EPSILON
unfoldable pub near_zero : Float → Bool
near_zero x = le (abs_of x) epsilon
