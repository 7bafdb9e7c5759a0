-- Document 01, "Paying x", by choice and in numbers. A payment that the raise rule allows is an accepted action of the turn machine: it lifts the bet by the smallest
-- raise at least, or is the whole stack and the seat leaves the active ones, or nobody owes anew. And it keeps good order. Assumes nothing.
use Prim.Native.Nat.{ℕ, ◌+◌, ◌-◌, ◌%◌, ◌≤◌, ◌<◌, max}
use native.Mathlib.Nat.{mod-lt}
use native.Mathlib.Omega.{arith}
use mathlib.Core.Path.{◌≡◌, sym, ap, ◌∙◌}
use mathlib.Core.Logic.{◌⊎◌, inl, inr, ⊎_elim}
use mathlib.Core.Bool.{Bool, true, false, cond, not, ◌&&◌, and-false}
use lib.Dec.{ltb, eqb}
use borrow.Author.Tests.{le-ltb, eq-eqb}
use Rattle.commons.proofs.Bools.{differ, and_both}
use Rattle.commons.proofs.Order.{lt_or_le}
use Rattle.order.proofs.Sets.{Within}
use Rattle.order.proofs.Walk.{gap, gap_lands}
use Rattle.order.proofs.View.{View}
use Rattle.order.proofs.Turn.{Kind, Acted, calm, lifts, leaves}
use Rattle.order.proofs.Change.{Put, which, put_each, put-sum, left-within, left_other}
use Rattle.order.proofs.Good.{Good, room, bet_in}
use Rattle.order.proofs.Raise.{Rule}

-- the round bet of the seat to act once it pays x
abbrev pub put_in : View → ℕ → ℕ
put_in v x = v.round v.seat + x

-- x is in the stack, and is the whole stack, or lifts nothing, or lifts as the rule allows
pub record Fine (R : Rule) (v : View) (x : ℕ) : Type 0 where
  pub enough : x ≤ v.stack v.seat
  pub allowed : (x ≡ v.stack v.seat) ⊎ ((put_in v x ≤ v.bet) ⊎ R.Lift v.least (put_in v x - v.bet))

pub record Pays (R : Rule) (n : ℕ) (v : View) (x : ℕ) (w : View) : Type 0 where
  pub stack : Put n v.stack w.stack v.seat (v.stack v.seat - x)
  pub round : Put n v.round w.round v.seat (put_in v x)
  pub hand : Put n v.hand w.hand v.seat (v.hand v.seat + x)
  pub pot : w.pot ≡ v.pot + x
  pub bet : w.bet ≡ max v.bet (put_in v x)
  pub least : w.least ≡ R.grow v.least (max v.bet (put_in v x) - v.bet)
  -- if the bet rose the active seats owe; the payer owes nothing
  pub owes : Put n (cond (ltb v.bet (put_in v x)) v.active v.owes) w.owes v.seat false
  -- with nothing left the seat leaves
  pub active : Put n v.active w.active v.seat (v.active v.seat && not (eqb x (v.stack v.seat)))
  pub next : w.seat ≡ (v.seat + gap n w.owes v.seat) % n

-- of the sets a and o, o within a
pick_in : (t : Bool) (a o : ℕ → Bool) (i : ℕ) → (o i ≡ true → a i ≡ true) → cond t a o i ≡ true → a i ≡ true
pick_in true a o i h e = e
pick_in false a o i h e = h e

in_pick : (t : Bool) (a o : ℕ → Bool) (i : ℕ) → (o i ≡ true → a i ≡ true) → o i ≡ true → cond t a o i ≡ true
in_pick true a o i h e = h e
in_pick false a o i h e = e

module _ {R : Rule} {n total : ℕ} {v w : View} {x : ℕ} (g : Good n total v) (f : Fine R v x) (p : Pays R n v x w) where
  in_reach : put_in v x ≤ total
  in_reach = omega (arith, f.enough, room g v.seat g.seated)

  bet-up : v.bet ≤ w.bet
  bet-up = omega (arith, p.bet)

  bet-reach : w.bet ≤ total
  bet-reach = omega (arith, p.bet, in_reach, bet_in g)

  -- ---- the sets
  still-active : Within n w.active v.active
  still-active = put_each (λ i b. b ≡ true → v.active i ≡ true) p.active (λ t. (and_both (v.active v.seat) _ t).0) (λ i l h t. t)

  -- who is asked is active, and who owed is asked again
  asked : Within n (cond (ltb v.bet (put_in v x)) v.active v.owes) v.active
  asked i l = pick_in (ltb v.bet (put_in v x)) v.active v.owes i (g.owed i l)

  again : Within n v.owes (cond (ltb v.bet (put_in v x)) v.active v.owes)
  again i l = in_pick (ltb v.bet (put_in v x)) v.active v.owes i (g.owed i l)

  all_in_leaves : x ≡ v.stack v.seat → w.active v.seat ≡ false
  all_in_leaves e = p.active.here ∙ rw (eq-eqb x (v.stack v.seat) e) (and-false (v.active v.seat))

  rose : v.owes v.seat ≡ true → v.bet < put_in v x → (x ≡ v.stack v.seat) ⊎ ((put_in v x ≤ v.bet) ⊎ R.Lift v.least (put_in v x - v.bet)) → Kind n total v w
  rose own l (inl e) = leaves (g.owed v.seat g.seated own) (all_in_leaves e) bet-up
  rose own l (inr (inl h)) = absurd (omega arith)
  rose own l (inr (inr h)) = lifts (omega (arith, p.bet, R.lift_least v.least (put_in v x - v.bet) h))

  kind : v.owes v.seat ≡ true → Kind n total v w
  kind own =
      ⊎_elim (λ l. rose own l f.allowed)
      (λ (h : put_in v x ≤ v.bet). calm (λ i j t. rw (le-ltb v.bet (put_in v x) h) at (left-within p.owes i j t)) (omega (arith, p.bet)))
      (lt_or_le v.bet (put_in v x))

  pub pay-acts : v.owes v.seat ≡ true → Acted n total v w
  pay-acts own = record {
    seated = g.seated;
    turn = own;
    small = g.small;
    rises = rw p.least (R.grow-least v.least (max v.bet (put_in v x) - v.bet));
    covered = bet-reach;
    done = p.owes.here;
    stays = λ j l h t. p.owes.there j l h ∙ again j l t;
    fewer = still-active;
    kind = kind own;
    next = p.next;
  }

  -- ---- good order
  some-met : (j : ℕ) × (j < n) × (w.round j ≡ w.bet)
  some-met =
      let j = g.met in
      ⊎_elim (λ (l : v.bet < put_in v x). (v.seat, g.seated, omega (arith, p.round.here, p.bet)))
      (λ (h : put_in v x ≤ v.bet). ⊎_elim (λ e. (v.seat, g.seated, omega (arith, p.round.here, p.bet, ap v.round (sym e) ∙ j.2))) (λ e. (j.0, j.1, omega (arith, p.round.there j.0 j.1 e, p.bet, j.2))) (which j.0 v.seat))
      (lt_or_le v.bet (put_in v x))

  some_left : w.active v.seat ≡ true → 0 < v.stack v.seat - x
  some_left t = ⊎_elim (λ e. absurd (differ (w.active v.seat) t (all_in_leaves e))) (λ e. omega (arith, f.enough)) (which x (v.stack v.seat))

  pub pay-keeps : Good n total w
  pay-keeps = record {
    chips = omega (arith, put-sum p.stack g.seated, p.pot, g.chips, f.enough);
    few = g.few;
    books = omega (arith, put-sum p.hand g.seated, p.pot, g.books);
    under = put_each (λ i y. y ≤ w.hand i) p.round (omega (arith, p.hand.here, g.under v.seat g.seated)) (λ i l h. omega (arith, p.hand.there i l h, g.under i l));
    high = put_each (λ i y. y ≤ w.bet) p.round (omega (arith, p.bet)) (λ i l h. omega (arith, g.high i l, bet-up));
    met = some-met;
    small = omega (arith, p.least, g.small, R.grow-least v.least (max v.bet (put_in v x) - v.bet));
    large = omega (arith, p.least, g.large, g.few, in_reach, bet_in g, R.grow-most v.least (max v.bet (put_in v x) - v.bet));
    held = put_each (λ i k. w.active i ≡ true → 0 < k) p.stack some_left (λ i l h t. g.held i l (still-active i l t));
    owed = λ i l t. p.active.there i l (left_other p.owes i t) ∙ asked i l (left-within p.owes i l t);
    seated = rw p.next (mod-lt (v.seat + gap n w.owes v.seat) (omega (arith, g.seated)));
    turn = λ j l t. rw p.next (gap_lands n w.owes v.seat j g.seated l t);
  }
