-- Steps keep a record sound: of a sound record each step, accepted or refused, gives a sound one; and an accepted step gives one, whatever it was made on.
-- Assumes nothing.
use Prim.Native.Nat.{ℕ, ◌<◌, ◌^◌}
use native.Mathlib.Nat.{lt_of_lt_of_le}
use mathlib.Core.Path.{◌≡◌, refl, sym, ◌∙◌}
use mathlib.Core.Bool.{Bool, true, false, cond, not}
use mathlib.Core.List.{List, [], ◌∷◌}
use lib.Dec.{ltb}
use lib.Ieee.{Float, inf}
use lib.Pow.{pow_pos}
use borrow.Author.Tests.{lt-ltb, le-leb, eq-eqb}
use Rattle.floats.specs.Helpers.{near_zero}
use Rattle.commons.proofs.Bools.{pick, turned}
use Rattle.refusals.specs.declared.Refusal.TheVariants.{Added}
use Rattle.refusals.specs.declared.AddedError.TheVariants.{BadSeat}
use Rattle.refusals.specs.Rows.{Row, row, judge, verdict_number}
use Rattle.refusals.proofs.Rows.{answer-of, fails-at, stands-at-zero}
use Rattle.seats.specs.Bits.{without, with_if, without_if}
use Rattle.seats.proofs.Laws.{with-below, without-below}
use Rattle.rounds.specs.Paying.{left_of, owed_of, owing_after}
use Rattle.rounds.specs.Walk.{walk_of}
use Rattle.rounds.proofs.Walk.{walk-seated}
use Rattle.rounds.specs.declared.Round.{Round}
use Rattle.rounds.specs.declared.Round.TheVariants.{Complete}
use Rattle.rounds.specs.Order.{next_of}
use Rattle.table.specs.declared.GameState.{GameState}
use Rattle.table.specs.declared.AgentAction.{AgentAction}
use Rattle.table.specs.declared.AgentAction.TheVariants.{Fold, Call, Bet, AllIn}
use Rattle.table.specs.declared.BetStep.{BetStep}
use Rattle.table.specs.declared.TableStep.{TableStep}
use Rattle.table.specs.Answers.{done, step_by, bad_record, sound_rows}
use Rattle.table.specs.Choice.{choice_of}
use Rattle.table.specs.Pay.{actor, payer_in, pays_of, turn_after, table_paid, bet_rows, bet_of, folded_step, fold_of, awarded, seat_rows, award_of}
use Rattle.table.specs.Rounds.{advance_of, complete_of, is_round, heads_up_preflop, first_turn, opening_turn, fresh_data, advanced_step, completed_step}
use Rattle.table.specs.Sound.{sound_frame, sound_of}
use Rattle.table.specs.With.{with_round}
use Rattle.table.proofs.Sound.{Sound, sound}
use Rattle.table.proofs.LawsRows.{fold_order, advance_order, complete_order, award_order}

-- ---- the tests of a record from the facts that they stand for
pub sound-of : (t : GameState) → Sound t → sound_of t ≡ true
unfolding sound_frame
sound-of t s =
    simp (le-leb 2 _ s.two, le-leb _ 16 s.most, eq-eqb _ _ s.same, lt-ltb _ _ s.deals, lt-ltb _ _ s.acts, lt-ltb _ _ s.active, lt-ltb _ _ s.all_in, lt-ltb _ _ s.owing, lt-ltb _ _ s.start, s.cards, s.added)

-- ---- sets stay below n
without_if_below : (b : Bool) (set i n : ℕ) → set < 2 ^ n → without_if b set i < 2 ^ n
without_if_below true set i n h = without-below set i n h
without_if_below false set i n h = h

with_if_below : (b : Bool) (set i n : ℕ) → set < 2 ^ n → i < n → with_if b set i < 2 ^ n
with_if_below true set i n h k = with-below set i n h k
with_if_below false set i n h k = h

either-below : (b : Bool) (x y n : ℕ) → x < 2 ^ n → y < 2 ^ n → cond b x y < 2 ^ n
either-below true x y n h k = h
either-below false x y n h k = k

owing-below : (rose forced out : Bool) (owed active i n : ℕ) → owed < 2 ^ n → active < 2 ^ n → owing_after rose forced out owed active i < 2 ^ n
unfolding owing_after
owing-below rose forced out owed active i n h k =
    without_if_below out (without_if (not forced) (cond rose active owed) i) i n (without_if_below (not forced) (cond rose active owed) i n (either-below rose active owed n k h))

-- ---- a walk from a seat of a sound record ends at one
module _ (t : GameState) (s : Sound t) where
  walk-below : (owing i : ℕ) → i < t.num_players → (walk_of owing t.num_players i).seat < t.num_players
  walk-below owing i h = walk-seated owing t.num_players i h s.most

  turn_below : (owed : ℕ) → (turn_after t owed).seat < t.num_players
  turn_below owed = rw s.same (walk-below owed (actor t) s.acts)

  -- a seat that pays, folds or is awarded
  pub paid-sound : (x : Float) (forced : Bool) → Sound (table_paid t x forced)
  paid-sound x forced =
      let n = t.num_players in
      let p = payer_in t in
      let owed : owed_of p x forced < 2 ^ n = owing-below _ forced _ _ _ _ n s.owing s.active in
      record {
        two = s.two;
        most = s.most;
        same = s.same;
        deals = s.deals;
        acts = turn_below (owed_of p x forced);
        place = lt_of_lt_of_le (turn_below (owed_of p x forced)) s.most;
        active = without_if_below (near_zero (left_of p x)) _ _ n s.active;
        all_in = with_if_below (near_zero (left_of p x)) _ _ n s.all_in s.acts;
        owing = owed;
        start = s.start;
        cards = s.cards;
        added = s.added;
      }

  pub fold-sound : Sound (folded_step t).table
  fold-sound =
      let n = t.num_players in
      let owed = without t.round_data.needs_action.set (actor t) in
      record {
        two = s.two;
        most = s.most;
        same = s.same;
        deals = s.deals;
        acts = turn_below owed;
        place = lt_of_lt_of_le (turn_below owed) s.most;
        active = without-below _ _ n s.active;
        all_in = s.all_in;
        owing = without-below _ _ n s.owing;
        start = s.start;
        cards = s.cards;
        added = s.added;
      }

  award-sound : (i : ℕ) (x : Float) → Sound (awarded t i x)
  award-sound i x = record {
    two = s.two;
    most = s.most;
    same = s.same;
    deals = s.deals;
    acts = s.acts;
    place = s.place;
    active = s.active;
    all_in = s.all_in;
    owing = s.owing;
    start = s.start;
    cards = s.cards;
    added = s.added;
  }

  -- a new round, whoever owes in it and is to act
  round-sound : (now before : Round) (active to : ℕ) → active < 2 ^ t.num_players → to < t.num_players → Sound (with_round t now before (fresh_data t active to))
  round-sound now before active to h k = record {
    two = s.two;
    most = s.most;
    same = refl;
    deals = s.deals;
    acts = k;
    place = lt_of_lt_of_le k s.most;
    active = s.active;
    all_in = s.all_in;
    owing = h;
    start = h;
    cards = s.cards;
    added = s.added;
  }

  first_below : (twice : Bool) (owing dealer : ℕ) → dealer < t.num_players → (first_turn twice owing t.num_players dealer).seat < t.num_players
  unfolding first_turn
  first_below true owing dealer h = walk-below owing (walk_of owing t.num_players dealer).seat (walk-below owing dealer h)
  first_below false owing dealer h = walk-below owing dealer h

-- ---- the steps, accepted or refused
abbrev BetKeeps : BetStep → Type 0
BetKeeps s = sound_of s.table ≡ true

abbrev Keeps : TableStep → Type 0
Keeps s = sound_of s.table ≡ true

module _ (t : GameState) (p : sound_of t ≡ true) where
  step-sound : (rows : List Row) (s : TableStep) → Keeps s → Keeps (step_by rows t s)
  step-sound rows s k = answer-of s _ Keeps (judge rows) (λ e. k) (λ r. p)

  pub bet-sound : (a : Float) (forced : Bool) → sound_of (bet_of t a forced).table ≡ true
  unfolding bet_of
  bet-sound a forced = answer-of _ _ BetKeeps (judge (bet_rows t a forced)) (λ e. sound-of _ (paid-sound t (sound t p) (pays_of (payer_in t) a forced) forced)) (λ r. p)

  pub folded-sound : sound_of (fold_of t).table ≡ true
  unfolding fold_of
  folded-sound = step-sound (sound_rows t) (folded_step t) (sound-of (folded_step t).table (fold-sound t (sound t p)))

  pub awarded-sound : (i : ℕ) (x : Float) → sound_of (award_of t i x).table ≡ true
  unfolding award_of
  awarded-sound i x = step-sound (seat_rows t i) (done 0 (awarded t i x)) (sound-of (awarded t i x) (award-sound t (sound t p) i x))

  pub advanced_sound : sound_of (advance_of t).table ≡ true
  unfolding advance_of
  advanced_sound =
      let s = sound t p in
      let to = first_below t s (heads_up_preflop t) t.player_active.set t.dealer_idx s.deals in
      step-sound (sound_rows t) _
      (pick Keeps (is_round t.round 11) (done 0 t) (advanced_step t) p (sound-of (advanced_step t).table (round-sound t s (next_of t.round) t.round t.player_active.set (opening_turn t).seat s.active to)))

  pub completed_sound : sound_of (complete_of t).table ≡ true
  unfolding complete_of
  completed_sound =
      let s = sound t p in
      step-sound (sound_rows t) _
      (pick Keeps (is_round t.round 11) (done 0 t) (completed_step t) p (sound-of (completed_step t).table (round-sound t s Complete t.round 0 t.dealer_idx (pow_pos t.num_players) s.deals)))

  pub choice_sound : (c : AgentAction) → sound_of (choice_of t c).table ≡ true
  unfolding choice_of
  choice_sound Fold = folded-sound
  choice_sound Call = bet-sound t.round_data.bet false
  choice_sound (Bet a) = bet-sound a false
  choice_sound AllIn = bet-sound (inf false) false

-- ---- an accepted step was on a sound record, and gives one
module _ (t : GameState) where
  accepted-sound : (rest : List Row) {k : ℕ} → k ≡ verdict_number (judge (bad_record t ∷ rest)) → k ≡ 0 → sound_of t ≡ true
  accepted-sound rest e z = turned (sound_of t) false (fails-at (bad_record t ∷ rest) (stands-at-zero (judge (bad_record t ∷ rest)) (sym e ∙ z)) 0)

  pub fold-accepted : verdict_number (fold_of t).answer ≡ 0 → sound_of (fold_of t).table ≡ true
  fold-accepted z = folded-sound t (accepted-sound [] (fold_order t) z)

  pub advance-accepted : verdict_number (advance_of t).answer ≡ 0 → sound_of (advance_of t).table ≡ true
  advance-accepted z = advanced_sound t (accepted-sound [] (advance_order t) z)

  pub complete-accepted : verdict_number (complete_of t).answer ≡ 0 → sound_of (complete_of t).table ≡ true
  complete-accepted z = completed_sound t (accepted-sound [] (complete_order t) z)

  pub award-accepted : (i : ℕ) (x : Float) → verdict_number (award_of t i x).answer ≡ 0 → sound_of (award_of t i x).table ≡ true
  award-accepted i x z = awarded-sound t (accepted-sound (row (not (ltb i t.num_players)) (Added BadSeat) ∷ []) (award_order t i x) z) i x
