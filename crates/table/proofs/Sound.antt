-- What the test of a record says, test by test; and the cards one at a time, for the chain that looks at them. Assumes nothing.
use Prim.Native.Nat.{ℕ, zero, suc, ◌<◌, ◌≤◌, ◌^◌}
use native.Mathlib.Omega.{arith}
use mathlib.Core.Path.{◌≡◌, refl, sym, ap, ◌∙◌}
use mathlib.Core.Bool.{Bool, true, ◌&&◌}
use mathlib.Core.List.{List}
use lib.Dec.{ltb}
use lib.ListN.{get_or}
use borrow.Author.Tests.{le-leb, leb-true, ltb-true, eqb-true}
use Rattle.commons.specs.Folds.{all_to}
use Rattle.commons.proofs.Bools.{and_turned}
use Rattle.commons.proofs.Tests.{test_at}
use Rattle.table.specs.declared.GameState.{GameState}
use Rattle.table.specs.Added.{good_added}
use Rattle.table.specs.Sound.{cards_ok, board_ok, frame_tests, sound_frame, frame_of, sound_of}

-- ---- the cards, as places
pub cards-each : (k : ℕ) (b : List ℕ) → cards_ok k b ≡ all_to k (λ i. ltb (get_or b i 0) 52)
unfolding cards_ok all_to
cards-each zero b = refl
cards-each (suc k) b = ap (◌&&◌ (ltb (get_or b k 0) 52)) (cards-each k b) ∙ and_turned (ltb (get_or b k 0) 52) (all_to k (λ i. ltb (get_or b i 0) 52))

pub few-cards : (n : ℕ) (b : List ℕ) → n ≤ 5 → board_ok n b ≡ cards_ok n b
unfolding board_ok
few-cards n b h = simp (le-leb n 5 h)

-- ---- the record
pub record Sound (t : GameState) : Type 0 where
  pub two : 2 ≤ t.num_players
  pub most : t.num_players ≤ 16
  pub same : t.round_data.player_bet_len ≡ t.num_players
  pub deals : t.dealer_idx < t.num_players
  pub acts : t.round_data.to_act_idx < t.num_players
  pub place : t.round_data.to_act_idx < 16
  pub active : t.player_active.set < 2 ^ t.num_players
  pub all_in : t.player_all_in.set < 2 ^ t.num_players
  pub owing : t.round_data.needs_action.set < 2 ^ t.num_players
  pub start : t.round_data.starting_player_active.set < 2 ^ t.num_players
  pub cards : board_ok t.board_len t.board ≡ true
  pub added : good_added t.added ≡ true

pub sound : (t : GameState) → sound_of t ≡ true → Sound t
unfolding sound_frame
sound t p =
    let at = test_at (frame_tests (frame_of t)) p in
    let most : t.num_players ≤ 16 = leb-true _ _ (at 1) in
    let acts : t.round_data.to_act_idx < t.num_players = ltb-true _ _ (at 4) in
    record {
      two = leb-true _ _ (at 0);
      most = most;
      same = eqb-true _ _ (at 2);
      deals = ltb-true _ _ (at 3);
      acts = acts;
      place = omega arith;
      active = ltb-true _ _ (at 5);
      all_in = ltb-true _ _ (at 6);
      owing = ltb-true _ _ (at 7);
      start = ltb-true _ _ (at 8);
      cards = at 9;
      added = at 10;
    }

-- the same of a test that code has made and passed
pub passed : (t : GameState) (ok : Bool) → ok ≡ sound_of t → ok ≡ true → Sound t
passed t ok test h = sound t (sym test ∙ h)
