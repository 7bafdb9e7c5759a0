-- A fold of the record: it stays sound and of whole amounts, and what is seen of it shows the machine's fold. Assumes nothing.
use mathlib.Core.Path.{refl}
use Rattle.seats.specs.Bits.{without}
use Rattle.table.specs.declared.GameState.{GameState}
use Rattle.table.specs.Pay.{actor, folded_step}
use Rattle.table.proofs.LawsSound.{sound-of, fold-sound}
use Rattle.table.proofs.Sound.{sound}
use Rattle.order.specs.GoodOrder.{owing}
use Rattle.order.proofs.Fold.{Folds}
use Rattle.order.proofs.Shown.{without-put}
use Rattle.order.proofs.Ends.{turn-next}
use Rattle.order.proofs.Record.{view, Whole}

module _ (t : GameState) (w : Whole t) where
  pub fold-whole : Whole (folded_step t).table
  fold-whole =
      record {
        sound = sound-of (folded_step t).table (fold-sound t (sound t w.sound));
        stacks = w.stacks;
        pot = w.pot;
        hands = w.hands;
        rounds = w.rounds;
        bet = w.bet;
        least = w.least;
      }

  pub fold-shows : Folds t.num_players (view t) (view (folded_step t).table)
  fold-shows =
      let s = sound t w.sound in
      record {
        owes = without-put _ (owing t) (actor t) s.most s.place;
        active = without-put _ t.player_active.set (actor t) s.most s.place;
        stack = λ i h. refl;
        round = λ i h. refl;
        hand = λ i h. refl;
        pot = refl;
        bet = refl;
        least = refl;
        next = turn-next t w.sound (without (owing t) (actor t));
      }
