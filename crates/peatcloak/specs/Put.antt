-- R15.8: what a bet in place writes: the places of the seat that paid, of the round and of the pot, and no other. Definitions only.
use Rattle.std.specs.Prelude.{ℕ, ◌+◌, ◌<◌, cond, List, eqb, get_or, set, Float}
use Rattle.std.specs.Float.{nan}
use Rattle.rounds.specs.declared.paying.Payer.{Payer}
use Rattle.rounds.specs.Paying.{payer_of, stake_of}
use Rattle.table.specs.declared.GameState.{GameState}
use Rattle.layout.specs.Outcome.{Outcome}
use Rattle.layout.specs.Places.{PLAYER_ACTIVE, PLAYER_ALL_IN, NEEDS_ACTION, TO_ACT_IDX, TOTAL_BET_COUNT, TOTAL_RAISE_COUNT, FORCED_BET_COUNT, PASSED, TOTAL_POT, ROUND_BET, MIN_RAISE, PAID, STACKS, HAND_BETS, ROUND_BETS}
use Rattle.layout.specs.Words.{word_at, word_of}

-- ---- a payer laid into the lists; i is the seat
unfoldable pub floats_with : List Float → ℕ → Payer → Float → List Float
floats_with fs i p paid =
    let s = p.stake in
    let one = set (set (set (set fs TOTAL_POT p.pot) ROUND_BET s.bet) MIN_RAISE s.min_raise) PAID paid in
    set (set (set one (STACKS + i) p.stack) (HAND_BETS + i) p.hand_bet) (ROUND_BETS + i) s.round_bet

unfoldable pub numbers_with : List ℕ → Payer → ℕ → List ℕ
numbers_with ns p passed =
    let s = p.stake in
    let turn = set (set (set (set ns PLAYER_ACTIVE p.active) PLAYER_ALL_IN p.all_in) NEEDS_ACTION p.owing) TO_ACT_IDX (word_of p.seat) in
    set (set (set (set turn TOTAL_BET_COUNT s.total) TOTAL_RAISE_COUNT s.raises) FORCED_BET_COUNT s.forced) PASSED (word_of passed)

-- R15.16: what the types of its fields say of it
pub record PayerFits (p : Payer) : Type 0 where
  pub active : p.active < 65536
  pub all_in : p.all_in < 65536
  pub owing : p.owing < 65536
  pub total : p.stake.total < 256
  pub raises : p.stake.raises < 256
  pub forced : p.stake.forced < 256

-- ---- seat i of a table, as one that pays
abbrev pub payer_on : GameState → ℕ → Payer
payer_on t i =
    let d = t.round_data in
    payer_of (stake_of (get_or d.player_bet i nan) d.bet d.min_raise d.total_bet_count d.total_raise_count d.forced_bet_count)
    (get_or t.stacks i nan) (get_or t.player_bet i nan) t.total_pot t.player_active.set t.player_all_in.set d.needs_action.set d.to_act_idx

-- ---- the lists after a bet by the seat to act: as they were where it is refused
abbrev pub floats_put : List Float → List ℕ → Outcome → List Float
floats_put fs ns o = let i = word_at ns TO_ACT_IDX in cond (eqb o.number 0) (floats_with fs i (payer_on o.table i) o.paid) fs

abbrev pub numbers_put : List ℕ → Outcome → List ℕ
numbers_put ns o = cond (eqb o.number 0) (numbers_with ns (payer_on o.table (word_at ns TO_ACT_IDX)) o.passed) ns
