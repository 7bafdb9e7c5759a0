-- R13.5, R13.6: a record is sound where each of these tests holds; a step on another is 19. Definitions only.
use Rattle.std.specs.Prelude.{ℕ, zero, suc, ◌^◌, Bool, true, ◌&&◌, List, [], ◌∷◌, leb, ltb, eqb, get_or}
use Rattle.commons.specs.Tests.{all_of}
use Rattle.table.specs.declared.GameState.{GameState}
use Rattle.table.specs.declared.soundness.Frame.{Frame}
use Rattle.table.specs.Added.{good_added}

-- the first k cards are below 52
unfoldable pub cards_ok : ℕ → List ℕ → Bool
cards_ok zero b = true
cards_ok (suc k) b = ltb (get_or b k 0) 52 && cards_ok k b

-- R13.5: a board of at most 5 cards, each below 52; of a longer one no card is looked at
unfoldable pub board_ok : ℕ → List ℕ → Bool
board_ok n b = leb n 5 && cards_ok n b

-- R13.5: the number of seats, the round's list, dealer and seat to act, the four sets, the board; and last what is added
abbrev pub frame_tests : Frame → List Bool
frame_tests f =
    let n = f.seats in
    leb 2 n
    ∷ leb n 16
    ∷ eqb f.round_seats n
    ∷ ltb f.dealer n
    ∷ ltb f.to_act n
    ∷ ltb f.active (2 ^ n)
    ∷ ltb f.all_in (2 ^ n)
    ∷ ltb f.owing (2 ^ n)
    ∷ ltb f.starting (2 ^ n)
    ∷ board_ok f.cards f.board
    ∷ good_added f.added
    ∷ []

unfoldable pub sound_frame : Frame → Bool
sound_frame f = all_of (frame_tests f)

-- what of a record is looked at
abbrev pub frame_of : GameState → Frame
frame_of t =
    let d = t.round_data in
    record {
      seats = t.num_players;
      round_seats = d.player_bet_len;
      dealer = t.dealer_idx;
      to_act = d.to_act_idx;
      active = t.player_active.set;
      all_in = t.player_all_in.set;
      owing = d.needs_action.set;
      starting = d.starting_player_active.set;
      cards = t.board_len;
      board = t.board;
      added = t.added;
    }

abbrev pub sound_of : GameState → Bool
sound_of t = sound_frame (frame_of t)
