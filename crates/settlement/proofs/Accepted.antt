-- The five answers: an accepted settlement passed all four tests and pays out; any other hands the record back with no rewards. Assumes nothing.
use Rattle.std.proofs.Common.{◌≡◌, ℕ, Bool, true, false, not, ◌≢◌, List, [], ◌∷◌, sym, refl, ap, ◌∙◌, ⊎_elim, arith}
use Rattle.std.specs.Prelude.{Ok, Err}
use Rattle.refusals.specs.declared.Refusal.TheVariants.{Added}
use Rattle.refusals.specs.declared.AddedError.TheVariants.{BadRecord, NobodyLeft, NotWholeChips, AlreadyPaid}
use Rattle.commons.proofs.Bools.{either, turned}
use Rattle.refusals.proofs.Rows.{fails-at, answer-of}
use Rattle.refusals.specs.Rows.{row, Verdict, judge, answer, verdict_number}
use Rattle.table.specs.declared.GameState.{GameState}
use Rattle.table.specs.Sound.{sound_of}
use Rattle.table.proofs.Sound.{sound}
use Rattle.layers.specs.declared.Hand.{Hand}
use Rattle.layers.specs.Settlement.{is_payable, awards_of}
use Rattle.settlement.specs.declared.Settled.{Settled}
use Rattle.settlement.specs.Hand.{hand_of}
use Rattle.settlement.specs.Settlement.{is_paid, is_whole_table, someone, settle_rows, paid_out, no_rewards, refused, settled_of}
use Rattle.settlement.proofs.Whole.{Whole, whole, payable_where}

pub record Passed (t : GameState) (contested : Bool) : Type 0 where
  pub sounds : sound_of t ≡ true
  pub unpaid : is_paid t ≡ false
  pub wholes : is_whole_table t ≡ true
  pub left : contested ≡ true

pub verdict-paid : (t : GameState) (contested : Bool) → judge (settle_rows t contested) ≡ Ok tt → Passed t contested
verdict-paid t contested p =
    let fail = fails-at (settle_rows t contested) p in
    record { sounds = turned _ false (fail 0); unpaid = fail 1; wholes = turned _ false (fail 2); left = turned _ false (fail 3) }

-- where the test of 22 is looked at, a payable hand is a contested one
verdict-same : (t : GameState) (ranks : List ℕ) → judge (settle_rows t (is_payable (hand_of t ranks))) ≡ judge (settle_rows t (someone t ranks))
verdict-same t ranks =
    ⊎_elim
    (λ s.
    ⊎_elim
    (λ w. rw (payable_where t ranks (sound t s) (whole t w)))
    (λ f. rw f)
    (either (is_whole_table t)))
    (λ f. rw f)
    (either (sound_of t))

-- ---- each answer, where its test decides
module _ (t : GameState) (ranks : List ℕ) where
  pub bad_record_lem : sound_of t ≡ false → settled_of t ranks ≡ refused t (Added BadRecord)
  unfolding settled_of
  bad_record_lem a = rw a

  pub already_paid : sound_of t ≡ true → is_paid t ≡ true → settled_of t ranks ≡ refused t (Added AlreadyPaid)
  unfolding settled_of
  already_paid a b = rw (a, b)

  pub not-whole : sound_of t ≡ true → is_paid t ≡ false → is_whole_table t ≡ false → settled_of t ranks ≡ refused t (Added NotWholeChips)
  unfolding settled_of
  not-whole a b c = rw (a, b, c)

  pub nobody_left : sound_of t ≡ true → is_paid t ≡ false → is_whole_table t ≡ true → someone t ranks ≡ false → settled_of t ranks ≡ refused t (Added NobodyLeft)
  unfolding settled_of
  nobody_left a b c d = rw (a, b, c, d)

  pub paid_where : sound_of t ≡ true → is_paid t ≡ false → is_whole_table t ≡ true → someone t ranks ≡ true → settled_of t ranks ≡ paid_out t (awards_of (hand_of t ranks))
  unfolding settled_of
  paid_where a b c d = rw (a, b, c, d)

-- without winnings it is never 24
pub never_24 : (t : GameState) (ranks : List ℕ) → is_paid t ≡ false → verdict_number (settled_of t ranks).answer ≢ 24
unfolding settled_of
never_24 t ranks f = rw f (at (sound_of t) (is_whole_table t) (someone t ranks))
  where
    at : (a b c : Bool)
        → verdict_number (answer (paid_out t (awards_of (hand_of t ranks))) (refused t) (judge (row (not a) (Added BadRecord) ∷ row (not b) (Added NotWholeChips) ∷ row (not c) (Added NobodyLeft) ∷ []))).answer ≢ 24
    at false b c e = omega arith
    at true false c e = omega arith
    at true true false e = omega arith
    at true true true e = omega arith

-- the code's verdict, which turned out to be w
pub settled-by : (t : GameState) (ranks : List ℕ) (h : Hand) (payable : Bool) (v w : Verdict) → h ≡ hand_of t ranks → payable ≡ is_payable h → v ≡ judge (settle_rows t payable) → v ≡ w
    → answer (paid_out t (awards_of (hand_of t ranks))) (refused t) w ≡ settled_of t ranks
unfolding settled_of
settled-by t ranks h payable v w a b c d = rw (← d, c, b, a, verdict-same t ranks)

-- ---- accepted
pub record Accepted (t : GameState) (ranks : List ℕ) : Type 0 where
  pub sounds : sound_of t ≡ true
  pub unpaid : is_paid t ≡ false
  pub is_whole : Whole t
  pub payable : is_payable (hand_of t ranks) ≡ true
  pub is : settled_of t ranks ≡ paid_out t (awards_of (hand_of t ranks))

module _ (t : GameState) (ranks : List ℕ) where
  abbrev verdict : Verdict
  verdict = judge (settle_rows t (someone t ranks))

  -- the settlement's answer is the verdict
  pub answered : (settled_of t ranks).answer ≡ verdict
  unfolding settled_of
  answered = by verdict
    where
      by : (v : Verdict) → (answer (paid_out t (awards_of (hand_of t ranks))) (refused t) v).answer ≡ v
      by (Ok _) = refl
      by (Err r) = refl

  pub accepted : (settled_of t ranks).answer ≡ Ok tt → Accepted t ranks
  unfolding settled_of
  accepted p =
      let v : verdict ≡ Ok tt = sym answered ∙ p in
      let q = verdict-paid t (someone t ranks) v in
      let w = whole t q.wholes in
      record { sounds = q.sounds; unpaid = q.unpaid; is_whole = w; payable = payable_where t ranks (sound t q.sounds) w ∙ q.left; is = ap (answer (paid_out t (awards_of (hand_of t ranks))) (refused t)) v }

  -- ---- refused
  pub refusal-keeps : verdict_number (settled_of t ranks).answer ≢ 0 → ((settled_of t ranks).table ≡ t) × ((settled_of t ranks).rewards ≡ no_rewards)
  unfolding settled_of
  refusal-keeps =
      answer-of _ _ (λ (s : Settled). verdict_number s.answer ≢ 0 → (s.table ≡ t) × (s.rewards ≡ no_rewards)) verdict (λ e n. absurd (n refl)) (λ r n. (refl, refl))
