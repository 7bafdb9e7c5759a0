-- A payment by choice of X whole chips, no more than the stack, from a record in good order: every sum and difference of floats is exact, so the record stays sound and
-- of whole amounts, and what is seen of it shows the machine's payment. Assumes nothing.
use Prim.Native.Nat.{ℕ, ◌+◌, ◌-◌, ◌≤◌, max}
use native.Mathlib.Omega.{arith}
use mathlib.Core.Path.{◌≡◌, subst}
use mathlib.Core.Bool.{Bool, false, cond, not, ◌&&◌}
use lib.ListN.{get_or}
use lib.Ieee.{Float, nan, binary32, add}
use Rattle.std.specs.Prelude.{Ok}
use Rattle.floats.specs.Helpers.{near_zero}
use Rattle.seats.specs.Bits.{has}
use Rattle.rounds.specs.Paying.{new_round_bet, new_bet, staked, left_of, owed_of}
use Rattle.rounds.specs.Steps.{put_in, stake_in}
use Rattle.bets.specs.Bet.{bet_size, size_for}
use Rattle.chips.specs.Rule.{Amount, pays, rule_of}
use Rattle.chips.specs.Whole.{most, chips_in}
use Rattle.chips.proofs.Value.{Is}
use Rattle.chips.proofs.Add.{add-whole}
use Rattle.commons.proofs.Folds.{sum-part}
use Rattle.chips.proofs.Whole.{whole_is, is_whole_lem, chips_are, chips-le}
use Rattle.chips.proofs.Lists.{amount-at}
use Rattle.chips.proofs.Amounts.{Means}
use Rattle.chips.proofs.Bet.{Same, bet-is}
use Rattle.chips.proofs.Paid.{Paid, paid-is, accepted}
use Rattle.table.specs.declared.GameState.{GameState}
use Rattle.table.specs.Pay.{actor, stack_of, payer_in, table_paid}
use Rattle.table.proofs.LawsSound.{sound-of, paid-sound}
use Rattle.table.proofs.Sound.{sound}
use Rattle.order.specs.GoodOrder.{chips_at, owing}
use Rattle.order.specs.Step.{size_of}
use Rattle.order.proofs.Change.{Put}
use Rattle.order.proofs.Good.{Good, room, hand_in}
use Rattle.order.proofs.Raise.{base}
use Rattle.order.proofs.Pay.{Pays}
use Rattle.order.proofs.Shown.{Chips, stored, still-whole, leaving_put, owing-put}
use Rattle.order.proofs.Ends.{turn-next}
use Rattle.order.proofs.Record.{view, Whole}

module _ (t : GameState) (w : Whole t) {total : ℕ} (g : Good t.num_players total (view t)) where
  abbrev n : ℕ
  n = t.num_players

  abbrev i : ℕ
  i = actor t

  -- the round bet of the seat to act, its stack, the bet and the smallest raise
  abbrev P : ℕ
  P = (view t).round i

  abbrev K : ℕ
  K = (view t).stack i

  abbrev B : ℕ
  B = (view t).bet

  abbrev M : ℕ
  M = (view t).least

  -- with the stack neither the round bet nor the pot passes 8,000
  put-room : P + K ≤ most
  put-room = omega (arith, room g i g.seated, g.few)

  pot-room : chips_in t.total_pot + K ≤ most
  pot-room = omega (arith, sum-part n (chips_at t.stacks) i g.seated, g.chips, g.few)

  is-round : Is (put_in t.round_data) P
  is-round = amount-at t.round_data.player_bet n w.rounds i g.seated

  is-stack : Is (stack_of t) K
  is-stack = amount-at t.stacks n w.stacks i g.seated

  -- the size of a bet follows the rule on whole chips, and so does the payment of an accepted one
  pub follows : (a : Float) (m : Amount) → Means a m → Same (size_of t a) (rule_of m P K B M)
  unfolding size_for bet_size
  follows = bet-is is-round is-stack (whole_is _ w.bet) (whole_is _ w.least) put-room (chips-le _)

  pub pays_rule : (a : Float) (m : Amount) → Means a m → (x : Float) → size_of t a ≡ Ok x → (X : ℕ) × (rule_of m P K B M ≡ pays X) × Is x X
  unfolding size_for bet_size
  pays_rule = accepted is-round is-stack (whole_is _ w.bet) (whole_is _ w.least) put-room (chips-le _)

  module _ (x : Float) (X : ℕ) (hx : Is x X) (enough : X ≤ K) where
    exact : Paid (put_in t.round_data) (stack_of t) t.round_data.bet t.round_data.min_raise x P K B M X
    exact = paid-is is-round is-stack (whole_is _ w.bet) (whole_is _ w.least) put-room (chips-le _) hx enough

    -- what stands in the record after it
    new-stack : Chips (left_of (payer_in t) x) (K - X)
    new-stack = (exact.stack, omega (arith, put-room))

    new-round : Chips (new_round_bet (stake_in t.round_data) x) (P + X)
    new-round = (exact.round, omega (arith, put-room))

    new-bet : Chips (new_bet (stake_in t.round_data) x) (max B (P + X))
    new-bet = (exact.bet, omega (arith, put-room, chips-le t.round_data.bet))

    new-least : Chips (staked (stake_in t.round_data) x false).min_raise (max M (max B (P + X) - B))
    new-least = (exact.least, omega (arith, new-bet.1, chips-le t.round_data.min_raise))

    new-pot : Chips (add binary32 t.total_pot x) (chips_in t.total_pot + X)
    new-pot = (add-whole (whole_is _ w.pot) hx (omega (arith, pot-room)), omega (arith, pot-room))

    new-hand : Chips (add binary32 (get_or t.player_bet i nan) x) (chips_at t.player_bet i + X)
    new-hand =
        let fits : chips_at t.player_bet i + X ≤ most = omega (arith, new-pot.1, hand_in g i g.seated) in
        (add-whole (amount-at _ n w.hands i g.seated) hx (omega arith), fits)

    pub pay-whole : Whole (table_paid t x false)
    pay-whole =
        let d = t.round_data in
        record {
          sound = sound-of (table_paid t x false) (paid-sound t (sound t w.sound) x false);
          stacks = still-whole n t.stacks w.stacks i g.seated new-stack;
          pot = is_whole_lem _ _ new-pot.0 new-pot.1;
          hands = still-whole n t.player_bet w.hands i g.seated new-hand;
          rounds = still-whole n d.player_bet w.rounds i g.seated new-round;
          bet = is_whole_lem _ _ new-bet.0 new-bet.1;
          least = is_whole_lem _ _ new-least.0 new-least.1;
        }

    pub pay-shows : Pays base n (view t) X (view (table_paid t x false))
    pay-shows =
        let s = sound t w.sound in
        let d = t.round_data in
        let active = t.player_active.set in
        let u = view (table_paid t x false) in
        record {
          stack = stored n t.stacks w.stacks i g.seated new-stack;
          round = stored n d.player_bet w.rounds i g.seated new-round;
          hand = stored n t.player_bet w.hands i g.seated new-hand;
          pot = chips_are _ _ new-pot.0 new-pot.1;
          bet = chips_are _ _ new-bet.0 new-bet.1;
          least = chips_are _ _ new-least.0 new-least.1;
          owes = subst (λ (rose : Bool). Put n (cond rose (has active) (has (owing t))) u.owes i false) exact.rose (owing-put n i active (owing t) _ _ s.most s.place);
          active = subst (λ (out : Bool). Put n (has active) u.active i (has active i && not out)) exact.empty (leaving_put n active i (near_zero (left_of (payer_in t) x)) s.most s.place);
          next = turn-next t w.sound (owed_of (payer_in t) x false);
        }
