-- A fold: the seat to act leaves both sets, nothing else moves, then the walk. It is an accepted action of the turn machine, and keeps good order. Assumes nothing.
use Prim.Native.Nat.{ℕ, ◌+◌, ◌%◌, ◌<◌}
use native.Mathlib.Nat.{mod-lt}
use native.Mathlib.Omega.{arith}
use mathlib.Core.Path.{◌≡◌, ◌∙◌}
use mathlib.Core.Bool.{true, false}
use Rattle.commons.proofs.Folds.{sum_same}
use Rattle.order.proofs.Walk.{gap, gap_lands}
use Rattle.order.proofs.View.{View}
use Rattle.order.proofs.Turn.{Acted, calm}
use Rattle.order.proofs.Change.{Put, left-within, left_other}
use Rattle.order.proofs.Good.{Good, bet_in}

-- amounts that agree below n
abbrev pub Agree : ℕ → (ℕ → ℕ) → (ℕ → ℕ) → Type 0
Agree n f g = (i : ℕ) → i < n → g i ≡ f i

pub record Folds (n : ℕ) (v w : View) : Type 0 where
  pub owes : Put n v.owes w.owes v.seat false
  pub active : Put n v.active w.active v.seat false
  pub stack : Agree n v.stack w.stack
  pub round : Agree n v.round w.round
  pub hand : Agree n v.hand w.hand
  pub pot : w.pot ≡ v.pot
  pub bet : w.bet ≡ v.bet
  pub least : w.least ≡ v.least
  pub next : w.seat ≡ (v.seat + gap n w.owes v.seat) % n

module _ {n total : ℕ} {v w : View} (g : Good n total v) (f : Folds n v w) where
  pub fold-acts : v.owes v.seat ≡ true → Acted n total v w
  fold-acts own = record {
    seated = g.seated;
    turn = own;
    small = g.small;
    rises = omega (arith, f.least);
    covered = omega (arith, f.bet, bet_in g);
    done = f.owes.here;
    stays = λ j l h t. f.owes.there j l h ∙ t;
    fewer = left-within f.active;
    kind = calm (left-within f.owes) f.bet;
    next = f.next;
  }

  pub fold-keeps : Good n total w
  fold-keeps = record {
    chips = rw (sum_same n w.stack v.stack f.stack, f.pot) g.chips;
    few = g.few;
    books = rw (sum_same n w.hand v.hand f.hand, f.pot) g.books;
    under = λ i l. omega (arith, f.round i l, f.hand i l, g.under i l);
    high = λ i l. omega (arith, f.round i l, f.bet, g.high i l);
    met = let j = g.met in (j.0, j.1, omega (arith, f.round j.0 j.1, f.bet, j.2));
    small = omega (arith, f.least, g.small);
    large = omega (arith, f.least, g.large);
    held = λ i l t. omega (arith, f.stack i l, g.held i l (left-within f.active i l t));
    owed = λ i l t. f.active.there i l (left_other f.owes i t) ∙ g.owed i l (left-within f.owes i l t);
    seated = rw f.next (mod-lt (v.seat + gap n w.owes v.seat) (omega (arith, g.seated)));
    turn = λ j l t. rw f.next (gap_lands n w.owes v.seat j g.seated l t);
  }
