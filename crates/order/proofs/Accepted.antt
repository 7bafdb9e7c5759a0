-- What an accepted move did, read from the promises: on a sound record a fold gave the folded table, a bet whose number is 0 was a payment that the bet's size
-- allowed, and an award whose number is 0 was made. An amount bet is what the rule on numbers takes. Assumes nothing.
use Prim.Native.Nat.{ℕ, ◌/◌, ◌%◌, ◌<◌}
use native.Mathlib.Nat.{div-add-mod'}
use native.Mathlib.Omega.{arith}
use mathlib.Core.Path.{◌≡◌, refl, sym, ap, ◌∙◌}
use mathlib.Core.Bool.{true, false}
use mathlib.Core.List.{[], ◌∷◌}
use lib.Dec.{ltb}
use lib.Pow.{pow_pos}
use lib.Ieee.{Float, nan, inf, fin}
use lib.Ieee.Positive.{num, den}
use borrow.Author.Tests.{eqb-true, ltb-true}
use Rattle.std.specs.Prelude.{Ok, Err}
use Rattle.commons.proofs.Bools.{differ, turned}
use Rattle.refusals.specs.Rows.{judge, answer, verdict_number}
use Rattle.refusals.proofs.Rows.{fails-at, later-stands, earlier-stands, stands-at-zero}
use Rattle.floats.specs.Helpers.{sign_of}
use Rattle.bets.specs.Bet.{size_rows, size_for}
use Rattle.chips.specs.Rule.{Amount, chips, endless}
use Rattle.chips.proofs.Value.{unsigned}
use Rattle.chips.proofs.Amounts.{Means}
use Rattle.table.specs.declared.GameState.{GameState}
use Rattle.table.specs.Pay.{payer_in, faced_by, full_row, verdict_rows, bet_rows, fold_of, folded_step, table_paid, paid_step, bet_of, seat_rows, award_of, awarded}
use Rattle.table.specs.Sound.{sound_of}
use Rattle.table.proofs.LawsRows.{bet_order, award_order}
use Rattle.table.specs.Answers.{done, refused, not_paid, bad_record}
use Rattle.order.specs.Step.{is_stake, size_of, due}

pub stake_means : (a : Float) → is_stake a ≡ true → (n : Amount) × Means a n
unfolding is_stake sign_of
stake_means nan e = absurd (differ false e refl)
stake_means (inf true) e = absurd (differ false e refl)
stake_means (inf false) e = (endless, refl)
stake_means (fin true m d) e = absurd (differ false e refl)
stake_means (fin false m d) e =
    let x = fin false m d in
    let z : num x % den x ≡ 0 = eqb-true _ _ e in
    (chips (num x / den x), (record { plain = λ t. unsigned t; over = pow_pos 0; size = omega (arith, div-add-mod' (num x) (den x)) }, refl))

-- ---- what was done: the bet's rows all failed
pub record Took (t : GameState) (a : Float) : Type 0 where
  pub sound : sound_of t ≡ true
  pub size : size_of t a ≡ Ok (due t a)
  pub table : (bet_of t a false).table ≡ table_paid t (due t a) false

pub bet_took : (t : GameState) (a : Float) → verdict_number (bet_of t a false).answer ≡ 0 → Took t a
unfolding bet_of size_for
bet_took t a z =
    let f = faced_by (payer_in t) in
    let rows = bet_rows t a false in
    let e : judge rows ≡ Ok tt = stands-at-zero (judge rows) (sym (bet_order t a false) ∙ z) in
    let sized = earlier-stands (size_rows false a f) (full_row (payer_in t) a false ∷ []) (later-stands (bad_record t ∷ []) (verdict_rows (payer_in t) a false) e) in
    record {
      sound = turned (sound_of t) false (fails-at rows e 0);
      size = ap (answer (Ok (due t a)) Err) sized;
      table = λ i. (answer (paid_step t (due t a) false) (λ r. not_paid r t) (e i)).table;
    }

pub fold-table : (t : GameState) → sound_of t ≡ true → (fold_of t).table ≡ (folded_step t).table
unfolding fold_of
fold-table t S = rw S

pub award_took : (t : GameState) (i : ℕ) (x : Float) → verdict_number (award_of t i x).answer ≡ 0 → (i < t.num_players) × ((award_of t i x).table ≡ awarded t i x)
unfolding award_of
award_took t i x z =
    let rows = seat_rows t i in
    let e : judge rows ≡ Ok tt = stands-at-zero (judge rows) (sym (award_order t i x) ∙ z) in
    (ltb-true i t.num_players (turned (ltb i t.num_players) false (fails-at rows e 1)), λ k. (answer (done 0 (awarded t i x)) (λ r. refused r t) (e k)).table)
