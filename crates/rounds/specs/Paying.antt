-- Section 7: what a payment of x makes of all that it moves. Definitions only.
use Rattle.std.specs.Prelude.{ℕ, ◌+◌, Bool, true, cond, not, ◌&&◌, ◌||◌, eqb, ltb, Float}
use Rattle.std.specs.Float.{binary32}
use Rattle.std.specs.Float.Ieee.{add, sub, lt}
use Rattle.floats.specs.Helpers.{max_of, near_zero}
use Rattle.seats.specs.Bits.{with_if, without_if}
use Rattle.rounds.specs.declared.paying.Stake.{Stake}
use Rattle.rounds.specs.declared.paying.Payer.{Payer}

-- ---- the three counters
-- R7.4: a raise, by choice, where the new round bet y is above the old B
abbrev pub is_raise : Bool → Float → Float → Bool
is_raise forced b y = not forced && lt b y

-- R7.4: a counter up by one; a full one stays, and the call that would raise it is refused
abbrev pub up_if : Bool → ℕ → ℕ
up_if raised c = cond (raised && ltb c 255) (c + 1) c

-- ---- R7.2, R7.3, R7.4: the stake is what the round data holds of a payment: the round bet, B, m and the counters
abbrev pub stake_of : Float → Float → Float → ℕ → ℕ → ℕ → Stake
stake_of p b m total raises forced = record { round_bet = p; bet = b; min_raise = m; total = total; raises = raises; forced = forced }

abbrev pub new_round_bet : Stake → Float → Float
new_round_bet s x = add binary32 s.round_bet x

abbrev pub new_bet : Stake → Float → Float
new_bet s x = max_of s.bet (new_round_bet s x)

abbrev pub staked : Stake → Float → Bool → Stake
staked s x forced =
    stake_of (new_round_bet s x) (new_bet s x) (max_of s.min_raise (sub binary32 (new_bet s x) s.bet))
    (up_if true s.total) (up_if (is_raise forced s.bet (new_round_bet s x)) s.raises) (up_if forced s.forced)

-- R7.5: 21, where a counter that the payment would raise is 255
abbrev pub is_full : Stake → Float → Bool → Bool
is_full s x forced = eqb s.total 255 || ((is_raise forced s.bet (new_round_bet s x) && eqb s.raises 255) || (forced && eqb s.forced 255))

-- ---- R7.6, R7.7, R7.8: who owes: after a rise of B the active seats, else who did; not who paid by choice, nor who has nothing left
unfoldable pub owing_after : Bool → Bool → Bool → ℕ → ℕ → ℕ → ℕ
owing_after rose forced out owed active i = without_if out (without_if (not forced) (cond rose active owed) i) i

-- ---- R7.1, R7.2, R7.8: the payer: the amounts and the sets
abbrev pub payer_of : Stake → Float → Float → Float → ℕ → ℕ → ℕ → ℕ → Payer
payer_of s stack hand pot active all_in owing seat = record {
  stake = s;
  stack = stack;
  hand_bet = hand;
  pot = pot;
  active = active;
  all_in = all_in;
  owing = owing;
  seat = seat;
}

abbrev pub left_of : Payer → Float → Float
left_of p x = sub binary32 p.stack x

abbrev pub owed_of : Payer → Float → Bool → ℕ
owed_of p x forced = owing_after (lt p.stake.bet (new_bet p.stake x)) forced (near_zero (left_of p x)) p.owing p.active p.seat

abbrev pub pay_of : Payer → Float → Bool → Payer
pay_of p x forced =
    let out = near_zero (left_of p x) in
    payer_of (staked p.stake x forced) (left_of p x) (add binary32 p.hand_bet x) (add binary32 p.pot x)
    (without_if out p.active p.seat) (with_if out p.all_in p.seat) (owed_of p x forced) p.seat

-- the turn is another seat's
abbrev pub seated : Payer → ℕ → Payer
seated p i = payer_of p.stake p.stack p.hand_bet p.pot p.active p.all_in p.owing i
