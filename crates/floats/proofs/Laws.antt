-- What the code tests and computes of a NaN, of the sign bit and of an amount without its sign is what the definitions say. Assumes nothing.
use lib.IntN.{ℤ}
use Prim.Native.Nat.{ℕ, zero, suc, ◌*◌}
use mathlib.Core.Path.{◌≡◌, refl, sym, ap, subst}
use mathlib.Core.Bool.{Bool, true, false, not}
use native.Mathlib.Omega.{arith}
use lib.Dec.{T, leb}
use lib.Ieee.{Float, nan, inf, fin, up, down, ne, neg, is_nan, fits, to_bits, binary32}
use lib.Ieee.Bits.{to_bits-lt}
use borrow.Author.Tests.{le-leb, lt-leb, eq-eqb}
use Rattle.floats.specs.Helpers.{sign_of, abs_of}

-- a NaN, and nothing else, differs from itself
pub ne_self : (x : Float) → ne x x ≡ is_nan x
unfolding ne is_nan
ne_self nan = refl
ne_self (inf true) = refl
ne_self (inf false) = refl
ne_self (fin true m e) = simp (eq-eqb (m * up e * down e) (m * up e * down e) refl)
ne_self (fin false m e) = simp (eq-eqb (m * up e * down e) (m * up e * down e) refl)

-- whether a number fits does not turn on its sign
bare : (m : ℕ) (e : ℤ) → T (fits binary32 (fin false m e)) → T (fits binary32 (fin true m e))
unfolding fits
bare zero e h = h
bare (suc m) e h = h

-- the sign bit is the sign
pub sign_bit : (x : Float) → T (fits binary32 x) → is_nan x ≡ false → leb 0x8000_0000 (to_bits binary32 x) ≡ sign_of x
unfolding is_nan sign_of to_bits fits
sign_bit nan h n = refl
sign_bit (inf true) h n = refl
sign_bit (inf false) h n = refl
sign_bit (fin true m e) h n = le-leb 0x8000_0000 (to_bits binary32 (fin true m e)) (omega arith)
sign_bit (fin false m e) h n = lt-leb 0x8000_0000 (to_bits binary32 (fin false m e)) (omega (arith, to_bits-lt binary32 (fin true m e) (bare m e h)))

-- a number without its sign: turned round where it is negative
pub abs_negative : (x : Float) → sign_of x ≡ true → neg x ≡ abs_of x
unfolding sign_of neg abs_of
abs_negative nan p = refl
abs_negative (inf s) p = ap (λ (t : Bool). inf (not t)) p
abs_negative (fin s m e) p = ap (λ (t : Bool). fin (not t) m e) p

pub abs_positive : (x : Float) → sign_of x ≡ false → x ≡ abs_of x
unfolding sign_of abs_of
abs_positive nan p = refl
abs_positive (inf s) p = ap inf p
abs_positive (fin s m e) p = ap (λ (t : Bool). fin t m e) p

pub nan-no_sign : (x : Float) → is_nan x ≡ true → sign_of x ≡ false
unfolding is_nan sign_of
nan-no_sign nan p = refl
nan-no_sign (inf s) p = absurd (subst T (sym p) tt)
nan-no_sign (fin s m e) p = absurd (subst T (sym p) tt)
