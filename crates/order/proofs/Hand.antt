-- Folds, bets and awards in any order: stacks and pot together grow by what is won and by nothing else. Amounts are read as whole numbers of any size here, since an
-- award may bring stacks and pot above 8,000 while folds and bets go on. Assumes nothing.
use Prim.Native.Nat.{ℕ, ◌+◌, ◌≤◌, ◌<◌}
use native.Mathlib.Nat.{add-zero}
use native.Mathlib.Omega.{arith}
use mathlib.Core.Path.{◌≡◌, sym, ◌∙◌, subst}
use mathlib.Core.Logic.{⊎_elim}
use mathlib.Core.Bool.{true, false}
use mathlib.Core.List.{List}
use lib.Dec.{eqb}
use lib.Ieee.{Float, binary32, add}
use borrow.Author.Tests.{eqb-true}
use Rattle.commons.proofs.Bools.{either, and_both}
use Rattle.refusals.specs.Rows.{judge}
use Rattle.refusals.proofs.Rows.{answer-of}
use Rattle.rounds.specs.Paying.{left_of, new_round_bet}
use Rattle.rounds.specs.Steps.{stake_in}
use Rattle.chips.specs.Whole.{most, is_whole, chips_in, all_whole, sum_chips}
use Rattle.chips.proofs.Value.{Is}
use Rattle.chips.proofs.Add.{add-whole, sub-whole}
use Rattle.commons.proofs.Folds.{sum-part, sum_mono}
use Rattle.chips.proofs.Whole.{whole_is, chips_are, chips-le}
use Rattle.table.specs.declared.GameState.{GameState}
use Rattle.table.specs.declared.TableStep.{TableStep}
use Rattle.table.specs.Pay.{actor, payer_in, table_paid, fold_of, folded_step}
use Rattle.table.specs.Answers.{sound_rows}
use Rattle.table.proofs.Sound.{sound}
use Rattle.order.specs.GoodOrder.{chips_at, chips_of, won_by}
use Rattle.order.specs.Run.{Run, stop, act}
use Rattle.order.specs.Step.{folds, bets, due, Move, acts, wins, Made, nothing_won, award_in, awards_in}
use Rattle.order.proofs.Record.{Sorted}
use Rattle.order.proofs.Accepted.{stake_means, bet_took, award_took}
use Rattle.order.proofs.Numbers.{worth, Number, worth-is, number, worth_at, worth_in, Numbers, whole_numbers, whole-worth, worth-chips, stored-numbers, stored-worth}
use Rattle.order.proofs.Flow.{Flow, goes_in_lem, comes_back, sub_back, add_back, flows}

-- ---- what is counted
abbrev in_stacks : GameState → ℕ
in_stacks t = worth_in t.stacks t.num_players

abbrev in_round : GameState → ℕ
in_round t = worth_in t.round_data.player_bet t.num_players

abbrev in_pot_lem : GameState → ℕ
in_pot_lem t = worth t.total_pot

abbrev won : GameState → ℕ
won t = worth_in t.player_winnings t.num_players

-- where stacks and pot began with so many chips
record Counted (began : ℕ) (t : GameState) : Type 0 where
  stacks : Numbers t.stacks t.num_players
  rounds : Numbers t.round_data.player_bet t.num_players
  winnings : Numbers t.player_winnings t.num_players
  pot : Number t.total_pot
  sum : in_stacks t + in_pot_lem t ≡ began + won t
  -- what can come back from a round bet is in the pot
  under : in_round t ≤ in_pot_lem t

-- from t to u, where k chips were awarded
record Counts (began : ℕ) (t : GameState) (k : ℕ) (u : GameState) : Type 0 where
  counted : Counted began u
  more : won u ≡ won t + k

-- ---- each move
module _ {began : ℕ} (few : began ≤ most) (t : GameState) (c : Counted began t) where
  abbrev stack_at : ℕ → ℕ
  stack_at i = worth_at t.stacks i

  abbrev round_at : ℕ → ℕ
  round_at i = worth_at t.round_data.player_bet i

  fold-counts : Counts began t 0 (fold_of t).table
  unfolding fold_of
  fold-counts =
      let same = sym (add-zero (won t)) in
      let folded : Counted began (folded_step t).table = record { stacks = c.stacks; rounds = c.rounds; winnings = c.winnings; pot = c.pot; sum = c.sum; under = c.under } in
      answer-of _ _ (λ (s : TableStep). Counts began t 0 s.table) (judge (sound_rows t)) (λ e. record { counted = folded; more = same }) (λ r. record { counted = c; more = same })

  -- x paid by the seat to act, which leaves K in its stack, P in the round and Q in the pot
  paid-counts : (x : Float) (K P Q : ℕ) → actor t < t.num_players → Is (left_of (payer_in t) x) K → Is (new_round_bet (stake_in t.round_data) x) P → Is (add binary32 t.total_pot x) Q
      → K + Q ≡ stack_at (actor t) + in_pot_lem t → P + in_pot_lem t ≡ round_at (actor t) + Q → Counts began t 0 (table_paid t x false)
  paid-counts x K P Q h k p q e f =
      let n = t.num_players in
      let i = actor t in
      let round = t.round_data.player_bet in
      record {
        counted = record {
          stacks = stored-numbers t.stacks n c.stacks i h k;
          rounds = stored-numbers round n c.rounds i h p;
          winnings = c.winnings;
          pot = number q;
          sum = omega (arith, c.sum, stored-worth t.stacks n c.stacks i h k, worth-is q);
          under = omega (arith, c.under, stored-worth round n c.rounds i h p, worth-is q);
        };
        more = sym (add-zero _);
      }

  module _ (room : won t ≤ most) (i : ℕ) (h : i < t.num_players) where
    in_pot : round_at i ≤ in_pot_lem t
    in_pot = omega (arith, c.under, sum-part t.num_players round_at i h)

    in_all : stack_at i + in_pot_lem t ≤ most + most
    in_all = omega (arith, c.sum, sum-part t.num_players stack_at i h)

  bet-counts : won t ≤ most → actor t < t.num_players → (x : Float) → Flow x (round_at (actor t)) (stack_at (actor t)) → Counts began t 0 (table_paid t x false)
  bet-counts room h x (goes_in_lem X v l) =
      let i = actor t in
      let a = in_pot room i h in
      let b = in_all room i h in
      paid-counts x _ _ _ h (sub-whole (c.stacks i h) v l (omega arith)) (add-whole (c.rounds i h) v (omega arith)) (add-whole c.pot v (omega arith)) (omega arith) (omega arith)
  bet-counts room h x (comes_back X v l) =
      let i = actor t in
      let a = in_pot room i h in
      let b = in_all room i h in
      paid-counts x _ _ _ h (sub_back (c.stacks i h) x v (omega arith)) (add_back (c.rounds i h) x v l (omega arith)) (add_back c.pot x v (omega arith) (omega arith)) (omega arith) (omega arith)

  made-counts : (m : Move) (u : GameState) → Made t m u → won t + award_in m ≤ most → Counts began t (award_in m) u
  made-counts (acts folds) u (z, q) room = subst (Counts began t 0) q fold-counts
  made-counts (acts (bets a)) u (v, z, q) room =
      let k = bet_took t a z in
      let i = actor t in
      let h = (sound t k.sound).acts in
      let m = stake_means a v in
      let few : won t ≤ most = omega arith in
      let f = flows (c.rounds i h) (c.stacks i h) (omega (arith, in_pot few i h, in_all few i h)) a m.0 m.1 in
      subst (Counts began t 0) q (rw k.table (bet-counts few h (due t a) f))
  made-counts (wins w) u (v, z, q) room =
      let n = t.num_players in
      let i = w.seat in
      let a = award_took t i w.amount z in
      let h = a.0 in
      let x = whole_is w.amount v in
      let s = add-whole (c.stacks i h) x (omega (arith, in_all (omega arith) i h)) in
      let y = add-whole (c.winnings i h) x (omega (arith, sum-part n (worth_at t.player_winnings) i h)) in
      let more = stored-worth t.player_winnings n c.winnings i h y in
      subst (Counts began t (award_in (wins w))) q
      (rw a.1
      (record {
        counted = record {
          stacks = stored-numbers t.stacks n c.stacks i h s;
          rounds = c.rounds;
          winnings = stored-numbers t.player_winnings n c.winnings i h y;
          pot = c.pot;
          sum = omega (arith, c.sum, stored-worth t.stacks n c.stacks i h s);
          under = c.under;
        };
        more = omega arith;
      }))

-- ---- a run of them
run_counts : {began : ℕ} {t u : GameState} {l : List Move} → began ≤ most → Counted began t → Run Made t l u → won t + awards_in l ≤ most → Counts began t (awards_in l) u
unfolding awards_in
run_counts few c stop room = record { counted = c; more = sym (add-zero _) }
run_counts few c (act {c = t} {d} {e = u} {a = m} {l} s r) room =
    let one = made-counts few t c m d s (omega arith) in
    let rest = run_counts few one.counted r (omega (arith, one.more)) in
    record { counted = rest.counted; more = omega (arith, rest.more, one.more) }

-- ---- in chips
-- where no more was won than the pot holds, nothing is above 8,000
module _ {began : ℕ} (few : began ≤ most) (u : GameState) (c : Counted began u) (h : won u ≤ chips_in u.total_pot) where
  pot-few : in_pot_lem u ≤ most
  unfolding chips_in
  pot-few =
      ⊎_elim (λ w. omega (arith, worth-is (whole_is u.total_pot w), chips-le u.total_pot))
      (λ f. let z : won u ≤ 0 = rw f at h in omega (arith, c.sum))
      (either (is_whole u.total_pot))

  chips_stay : chips_of u ≡ began + won_by u
  chips_stay =
      let n = u.num_players in
      let pot = chips_are u.total_pot _ c.pot pot-few in
      let stacks = worth-chips u.stacks n c.stacks (omega (arith, c.sum)) in
      let all = worth-chips u.player_winnings n c.winnings (omega (arith, pot-few)) in
      omega (arith, c.sum)

module _ (t : GameState) (s : Sorted t) (z : nothing_won t ≡ true) where
  none : (all_whole t.player_winnings t.num_players ≡ true) × (won t ≡ 0)
  none = let a = and_both (all_whole t.player_winnings t.num_players) (eqb (won_by t) 0) z in (a.0, whole-worth _ _ a.0 ∙ eqb-true (won_by t) 0 a.1)

  begins : Counted (chips_of t) t
  unfolding sum_chips
  begins =
      let n = t.num_players in
      let w = s.0 in
      let g = s.1 in
      let round = t.round_data.player_bet in
      let pot = whole_is t.total_pot w.pot in
      let put = sum_mono n (chips_at round) (chips_at t.player_bet) g.under in
      record {
        stacks = whole_numbers t.stacks n w.stacks;
        rounds = whole_numbers round n w.rounds;
        winnings = whole_numbers t.player_winnings n none.0;
        pot = number pot;
        sum = omega (arith, whole-worth t.stacks n w.stacks, worth-is pot, none.1);
        under = omega (arith, whole-worth round n w.rounds, worth-is pot, g.books);
      }

  pub hand-keeps-chips : {u : GameState} {l : List Move} → Run Made t l u → awards_in l ≤ chips_in u.total_pot → chips_of u ≡ chips_of t + won_by u
  hand-keeps-chips {u} r h =
      let few : chips_of t ≤ most = s.1.few in
      let k = run_counts few begins r (omega (arith, none.1, chips-le u.total_pot)) in
      chips_stay few u k.counted (omega (arith, k.more, none.1))
