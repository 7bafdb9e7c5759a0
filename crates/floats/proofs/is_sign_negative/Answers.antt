-- `floats::is_sign_negative`: the sign bit is the sign, where x is no NaN. Assumes nothing.
use borrow.Author.Rules.{rules}
use mathlib.Core.Path.{sym, ◌∙◌, subst}
use mathlib.Core.Bool.{Bool, not}
use lib.Dec.{T}
use Rattle.floats.proofs.Laws.{sign_bit, nan-no_sign}
use Rattle.floats.proofs.is_sign_negative.Goals as goal

pub returns-then-is_nan : goal.returns-then-is_nan
returns-then-is_nan c = sym (nan-no_sign _ (sym c.is_nan.ensures ∙ c.if-is_nan.true))

pub float_to_bits-b : goal.float_to_bits-b
float_to_bits-b c = subst (λ (b : Bool). T (not b)) (sym c.if-is_nan.false ∙ c.is_nan.ensures) tt

pub returns : goal.returns
returns c = sign_bit _ (search rules) (sym c.is_nan.ensures ∙ c.if-is_nan.false)
