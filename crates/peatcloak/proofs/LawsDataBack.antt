-- Round data that is laid into lists with room for it is what then stands there, place by place. Assumes nothing.
use Prim.Native.Nat.{ℕ, ◌+◌, ◌<◌, ◌≤◌, ◌%◌}
use native.Mathlib.Nat.{mod-eq_of_lt}
use native.Mathlib.Omega.{arith}
use mathlib.Core.Path.{◌≡◌, ap, ◌∙◌}
use mathlib.Core.List.{List, [], ◌∷◌}
use lib.ListN.{get_or, length}
use lib.Ieee.{Float, nan}
use Rattle.commons.specs.Filled.{copied, shared}
use Rattle.commons.proofs.Filled.{laid-long, laid_out, laid-at, copied-whole}
use Rattle.seats.specs.Set.{of_bits}
use Rattle.rounds.specs.declared.RoundData.{RoundData}
use Rattle.rounds.specs.With.{data_of}
use Rattle.layout.specs.Laid.{data_floats, data_words, data_numbers}
use Rattle.layout.specs.Places.{STARTING_PLAYER_ACTIVE, PASSED, NUMBERS, ROUND_BET, ROUND_BETS, FLOATS}
use Rattle.layout.specs.Standing.{data_at}
use Rattle.layout.specs.Words.{word_at, float_at, word_of}
use Rattle.layout.proofs.Sixteen.{list-out, list_back}

-- its numbers are within the bits that they have, and its list has sixteen places
pub record Fits (d : RoundData) : Type 0 where
  pub start : d.starting_player_active.set < 65536
  pub owing : d.needs_action.set < 65536
  pub seats : d.player_bet_len ≤ 16
  pub turn : d.to_act_idx < 16
  pub total : d.total_bet_count < 256
  pub raises : d.total_raise_count < 256
  pub forced : d.forced_bet_count < 256
  pub bets : length d.player_bet ≡ 16

module _ (d : RoundData) (passed : ℕ) (fs : List Float) (ns : List ℕ) (long : FLOATS ≤ length fs) (longs : NUMBERS ≤ length ns) (f : Fits d) where
  -- the words stand one after another, and the seats passed behind them
  word_back : (i : ℕ) → i < 7 → word_at (data_numbers d passed ns) (STARTING_PLAYER_ACTIVE + i) ≡ get_or (data_words d) (0 + i) 0
  word_back i h =
      let words = copied 0 STARTING_PLAYER_ACTIVE ns 0 (data_words d) 7 in
      let last = word_of passed ∷ [] in
      laid_out PASSED words (λ k. get_or last (0 + k) 0) (shared PASSED words 0 last 1) (STARTING_PLAYER_ACTIVE + i) 0 (λ k l e. omega arith)
      ∙ (λ z. word_at (copied-whole 0 STARTING_PLAYER_ACTIVE ns 0 (data_words d) 7 (omega arith) (omega arith) z) (STARTING_PLAYER_ACTIVE + i))
      ∙ laid-at STARTING_PLAYER_ACTIVE ns (λ k. get_or (data_words d) (0 + k) 0) 7 i 0 h (omega arith)

  -- the bet and the smallest raise likewise, and the list behind them
  abbrev single : List Float
  single = d.bet ∷ d.min_raise ∷ []

  abbrev base : List Float
  base = copied nan ROUND_BET fs 0 single 2

  long' : ROUND_BETS + 16 ≤ length base
  long' = omega (arith, laid-long ROUND_BET fs (λ k. get_or single (0 + k) nan) (shared ROUND_BET fs 0 single 2))

  float_back : (i : ℕ) → i < 2 → float_at (data_floats d fs) (ROUND_BET + i) ≡ get_or single (0 + i) nan
  float_back i h =
      list-out ROUND_BETS d.player_bet base f.bets long' (ROUND_BET + i) (λ k b e. omega arith)
      ∙ (λ z. float_at (copied-whole nan ROUND_BET fs 0 single 2 (omega arith) (omega arith) z) (ROUND_BET + i))
      ∙ laid-at ROUND_BET fs (λ k. get_or single (0 + k) nan) 2 i nan h (omega arith)

  pub data_back : data_at (data_floats d fs) (data_numbers d passed ns) ≡ d
  data_back =
      let bits : (w s : ℕ) → s < 65536 → w ≡ s → w % 65536 ≡ s = λ w s h e. ap (λ (v : ℕ). v % 65536) e ∙ mod-eq_of_lt h in
      let byte : (w c : ℕ) → c < 256 → w ≡ c → w % 256 ≡ c = λ w c h e. ap (λ (v : ℕ). v % 256) e ∙ mod-eq_of_lt h in
      λ z.
      data_of (of_bits (bits _ _ f.start (word_back 0 (omega arith)) z))
      (of_bits (bits _ _ f.owing (word_back 1 (omega arith)) z))
      (float_back 1 (omega arith) z)
      (float_back 0 (omega arith) z)
      (list_back ROUND_BETS d.player_bet base f.bets long' z)
      ((word_back 3 (omega arith) ∙ mod-eq_of_lt (omega (arith, f.seats))) z)
      (byte _ _ f.total (word_back 4 (omega arith)) z)
      (byte _ _ f.raises (word_back 5 (omega arith)) z)
      (byte _ _ f.forced (word_back 6 (omega arith)) z)
      ((word_back 2 (omega arith) ∙ mod-eq_of_lt (omega (arith, f.turn))) z)
