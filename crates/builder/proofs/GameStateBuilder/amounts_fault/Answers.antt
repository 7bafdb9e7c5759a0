-- `builder::GameStateBuilder::amounts_fault`: the code's 0.0 is the definition's; of the first row and the fourth, what each row comes to. Assumes nothing.
use Prim.Native.Nat.{min}
use mathlib.Core.Path.{◌≡◌, sym, ◌∙◌}
use mathlib.Core.Bool.{◌||◌, ◌&&◌}
use mathlib.Core.List.{[], ◌∷◌}
use lib.Dec.{ltb}
use lib.Ieee.{of_bits, le, is_nan}
use Rattle.std.specs.Prelude.{Ok, Err}
use Rattle.std.proofs.Common.{rules}
use Rattle.floats.specs.Helpers.{zerof}
use Rattle.amounts.specs.Amounts.{invalid, any_invalid, above_of}
use Rattle.refusals.specs.declared.Refusal.TheVariants.{Build}
use Rattle.refusals.specs.declared.GameStateBuilderError.TheVariants.{InvalidBigBlind, InvalidSmallBlind, InvalidAnte, InvalidStack, InsufficientActivePlayers}
use Rattle.refusals.specs.Rows.{row, judge}
use Rattle.builder.specs.Build.{seats_of, stacks_told, big_blind_of, small_blind_of, ante_of, is_starting}
use Rattle.builder.proofs.Order.{judge-parts, four-rows}
use Rattle.builder.proofs.GameStateBuilder.amounts_fault.Goals as goal

pub returns-in_err-refuse_if : goal.returns-in_err-refuse_if
unfolding of_bits
returns-in_err-refuse_if c =
    let b = c.args.self in
    let n = min (seats_of b) 16 in
    let blind = row (le (big_blind_of b) zerof || is_nan (big_blind_of b)) (Build InvalidBigBlind) in
    let later = row (invalid (small_blind_of b)) (Build InvalidSmallBlind) ∷ row (invalid (ante_of b)) (Build InvalidAnte) ∷ row (any_invalid n (stacks_told b).list) (Build InvalidStack) ∷ row (is_starting b && ltb (above_of n (stacks_told b).list) 2) (Build InsufficientActivePlayers) ∷ [] in
    let e : c.from_residual.result ≡ Err c.in_err-refuse_if.field-0.0 = search rules in
    let one : judge (blind ∷ []) ≡ Err c.in_err-refuse_if.field-0.0 = rw (sym c.big_blind_told-big.ensures, sym c.is_nan.ensures, sym c.into.ensures) (sym c.refuse_if.ensures ∙ c.in_err-refuse_if.was) in
    e ∙ sym (judge-parts (blind ∷ []) later ∙ rw one)

pub returns-in_err-refuse_if-2 : goal.returns-in_err-refuse_if-2
unfolding of_bits
returns-in_err-refuse_if-2 c = search rules

pub returns-in_err-refuse_if-3 : goal.returns-in_err-refuse_if-3
unfolding of_bits
returns-in_err-refuse_if-3 c = search rules

pub returns-in_err-refuse_if-4 : goal.returns-in_err-refuse_if-4
unfolding of_bits
returns-in_err-refuse_if-4 c =
    let b = c.args.self in
    let n = min (stacks_told b).len 16 in
    let blind = row (le (big_blind_of b) zerof || is_nan (big_blind_of b)) (Build InvalidBigBlind) in
    let small = row (invalid (small_blind_of b)) (Build InvalidSmallBlind) in
    let ante = row (invalid (ante_of b)) (Build InvalidAnte) in
    let stack = row (any_invalid n (stacks_told b).list) (Build InvalidStack) in
    let few = row (is_starting b && ltb (above_of n (stacks_told b).list) 2) (Build InsufficientActivePlayers) in
    let e : c.from_residual-in_err-refuse_if-4.result ≡ Err c.in_err-refuse_if-4.field-0.0 = search rules in
    let one : judge (blind ∷ []) ≡ Ok tt = rw (sym c.big_blind_told-big.ensures, sym c.is_nan.ensures, sym c.into.ensures) (sym c.refuse_if.ensures ∙ c.in_ok-refuse_if.was) in
    let two : judge (small ∷ []) ≡ Ok tt = rw (sym c.small_blind_or_half.ensures, sym c.is_invalid-small.ensures, sym c.into-2.ensures) (sym c.refuse_if-2.ensures ∙ c.in_ok-refuse_if-2.was) in
    let three : judge (ante ∷ []) ≡ Ok tt = rw (sym c.ante_told.ensures, sym c.is_invalid-ante.ensures, sym c.into-3.ensures) (sym c.refuse_if-3.ensures ∙ c.in_ok-refuse_if-3.was) in
    let four : judge (stack ∷ []) ≡ Err c.in_err-refuse_if-4.field-0.0 = rw (sym c.stacks_told-stacks.ensures, sym c.any_invalid-stack.ensures, sym c.into-4.ensures) (sym c.refuse_if-4.ensures ∙ c.in_err-refuse_if-4.was) in
    e ∙ sym (four-rows blind small ante stack (few ∷ []) ∙ rw (one, two, three, four))
