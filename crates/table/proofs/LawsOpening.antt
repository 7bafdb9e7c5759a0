-- The turn with which a round opens: what is told is the distance moved clockwise from the dealer. It is one walk, 1 to n seats; or, at Preflop with two
-- seats, two walks: 2 to 4 seats, and the seat at which the first came to rest, which may owe, is passed over. Assumes nothing.
use Prim.Native.Nat.{ℕ, ◌+◌, ◌≤◌, ◌<◌}
use native.Mathlib.Omega.{arith}
use mathlib.Core.Path.{◌≡◌, ◌∙◌}
use mathlib.Core.Bool.{Bool, true, false}
use lib.Dec.{eqb}
use borrow.Author.Tests.{eqb-true}
use Rattle.commons.proofs.Bools.{and_both}
use Rattle.rounds.specs.Order.{next_of}
use Rattle.rounds.specs.Walk.{seat_on, distance, walk_of, reached_from}
use Rattle.rounds.proofs.Walk.{on-on, distance-low, distance_high, walk_inside, walk-seated}
use Rattle.table.specs.declared.GameState.{GameState}
use Rattle.table.specs.Rounds.{advance_of, advanced_step, is_round, heads_up_preflop, first_turn, walk_on, opening_turn}
use Rattle.table.specs.Sound.{sound_of}
use Rattle.table.proofs.Sound.{Sound}

-- ---- one walk, or two
module _ (owing n k : ℕ) (low : k < n) (most : n ≤ 16) where
  abbrev first : ℕ
  first = distance owing n k

  abbrev rest : ℕ
  rest = seat_on n k first

  abbrev second : ℕ
  second = distance owing n rest

  seated : rest < n
  seated = rw (walk_inside owing n k low most) at (walk-seated owing n k low most)

  once : first_turn false owing n k ≡ record { seat = rest; passed = first }
  unfolding first_turn
  once = walk_inside owing n k low most

  twice : first_turn true owing n k ≡ record { seat = seat_on n k (first + second); passed = first + second }
  unfolding first_turn
  twice =
      let one = walk_inside owing n k low most in
      let two = walk_inside owing n rest seated most in
      let far = on-on n k first second in
      (λ i. walk_on owing n (one i)) ∙ (λ i. record { seat = (two i).seat; passed = first + (two i).passed }) ∙ (λ i. record { seat = far i; passed = first + second })

-- ---- of a sound table
module _ (t : GameState) (s : Sound t) where
  abbrev count : ℕ
  count = (opening_turn t).passed

  moves-by : (b : Bool) → (first_turn b t.player_active.set t.num_players t.dealer_idx).seat
      ≡ seat_on t.num_players t.dealer_idx (first_turn b t.player_active.set t.num_players t.dealer_idx).passed
  moves-by true = rw (twice t.player_active.set t.num_players t.dealer_idx s.deals s.most)
  moves-by false = rw (once t.player_active.set t.num_players t.dealer_idx s.deals s.most)

  -- the distance moved clockwise from the dealer, whether the walk is done once or twice
  pub opening-moves : (opening_turn t).seat ≡ seat_on t.num_players t.dealer_idx count
  opening-moves = moves-by (heads_up_preflop t)

  pub opening-once : heads_up_preflop t ≡ false → opening_turn t ≡ reached_from t.player_active.set t.num_players t.dealer_idx
  opening-once e = rw e (once t.player_active.set t.num_players t.dealer_idx s.deals s.most)

  -- the second walk goes on from where the first came to rest
  pub opening-twice : heads_up_preflop t ≡ true → opening_turn t ≡ walk_on t.player_active.set t.num_players (walk_of t.player_active.set t.num_players t.dealer_idx)
  unfolding first_turn
  opening-twice e = rw e

  two-seats : heads_up_preflop t ≡ true → t.num_players ≡ 2
  two-seats e = eqb-true _ _ (and_both (is_round (next_of t.round) 3) (eqb t.num_players 2) e).1

  pub twice-count : heads_up_preflop t ≡ true → (2 ≤ count) × (count ≤ 4)
  twice-count e =
      let n = t.num_players in
      let k = t.dealer_idx in
      let o = t.player_active.set in
      let from = rest o n k s.deals s.most in
      let sat = seated o n k s.deals s.most in
      let is : count ≡ first o n k s.deals s.most + second o n k s.deals s.most = λ i. (((λ j. first_turn (e j) o n k) ∙ twice o n k s.deals s.most) i).passed in
      let fewest : 2 ≤ count = omega (arith, is, distance-low o n k s.deals, distance-low o n from sat) in
      (fewest, omega (arith, is, distance_high o n k s.deals, distance_high o n from sat, two-seats e))

-- ---- and it is what `advance_round` tells of a sound table that is not complete, and where its turn stands
pub advance-tells : (t : GameState) → sound_of t ≡ true → is_round t.round 11 ≡ false → advance_of t ≡ advanced_step t
unfolding advance_of
advance-tells t s e = rw (s, e)
