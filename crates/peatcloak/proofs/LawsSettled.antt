-- A settlement into the lists. The rewards that are told as 32-bit words are the settlement's own, since each fits. Assumes nothing.
use Prim.Native.Nat.{ℕ, ◌≤◌}
use native.Mathlib.Omega.{arith}
use mathlib.Core.Path.{◌≡◌, refl, sym, subst, ap, ◌∙◌}
use mathlib.Core.Logic.{◌≢◌, ⊎_elim}
use mathlib.Core.Bool.{Bool, true, false, cond, ◌&&◌}
use mathlib.Core.List.{List}
use borrow.Author.Tests.{eq-eqb, ne_eqb, leb-true, eqb-true}
use lib.Dec.{leb, eqb}
use lib.IntN.{ℤ, pos}
use lib.ListN.{length}
use lib.Ieee.{Float}
use mir.Syntax.{w32}
use mir.Val.{SFits}
use mir.ValLaws.{to_z-of_z}
use Rattle.commons.proofs.Bools.{and_both}
use Rattle.commons.proofs.Filled.{filled_cong}
use Rattle.commons.proofs.Order.{lt_or_le}
use Rattle.std.specs.Prelude.{Ok}
use Rattle.refusals.proofs.Rows.{stands-at-zero}
use Rattle.table.specs.declared.GameState.{GameState}
use Rattle.table.specs.Sound.{sound_of}
use Rattle.settlement.specs.declared.Settled.{Settled}
use Rattle.settlement.specs.Settlement.{settled_of}
use Rattle.settlement.proofs.Nets.{reward_of, reward_fits, no_reward}
use Rattle.settlement.proofs.Promises.{stays-sound}
use Rattle.layout.specs.Outcome.{Outcome, floats_after, numbers_after}
use Rattle.layout.specs.Standing.{stands_in, table_at, table_in}
use Rattle.layout.proofs.LawsOutcome.{After}
use Rattle.layout.proofs.LawsRead.{table-there, stands-room}
use Rattle.peatcloak.specs.Calls.{judged, nothing_there, Stands as CallStands}
use Rattle.peatcloak.specs.Settling.{ranks_at, settled_at, paid_out, settle_on, rewards_told, rewards_after, in_words, words_after}
use Rattle.peatcloak.proofs.LawsCalls.{Answered, answered, same_call, nothing-done}

-- ---- the rewards as words
zero-fits : SFits w32 (pos 0)
zero-fits = record { sfits = omega arith }

module _ (t : GameState) (ranks : List ℕ) (paid : (settled_of t ranks).answer ≡ Ok tt) where
  fits : (i : ℕ) → SFits w32 (reward_of t ranks i)
  fits i = ⊎_elim (λ l. reward_fits t ranks paid i l) (λ g. subst (SFits w32) (sym (no_reward t ranks paid i g)) zero-fits) (lt_or_le i t.num_players)

  pub rewards-words : (rs : List ℤ) → in_words (settled_of t ranks).rewards rs ≡ rewards_told (settled_of t ranks).rewards rs
  rewards-words rs = filled_cong rs _ _ 16 (λ i h. to_z-of_z w32 (reward_of t ranks i) (fits i))

-- ---- the settlement; ok is what the test for a table gave
module _ (fs : List Float) (ns : List ℕ) (ok : Bool) (e : ok ≡ stands_in fs ns) (ranks : List ℕ) (rs : List ℤ) where
  abbrev room : Bool
  room = leb 16 (length ranks) && leb 16 (length rs)

  abbrev o : Outcome
  o = settle_on fs ns ranks (length rs)

  abbrev told : List ℤ
  told = (settled_at fs ns ranks).rewards

  -- where the number is 0 the settlement was accepted
  accepted : o.number ≡ 0 → (settled_at fs ns ranks).answer ≡ Ok tt
  accepted n = by ((leb 16 (length ranks) && leb 16 (length rs)) && stands_in fs ns) refl
    where
      by : (b : Bool) → (leb 16 (length ranks) && leb 16 (length rs)) && stands_in fs ns ≡ b → (settled_at fs ns ranks).answer ≡ Ok tt
      by true q = stands-at-zero (settled_at fs ns ranks).answer ((λ i. (cond (sym q i) (paid_out (settled_at fs ns ranks)) (nothing_there fs ns)).number) ∙ n)
      by false q =
          let none : (nothing_there fs ns).number ≡ 0 = (λ i. (cond (sym q i) (paid_out (settled_at fs ns ranks)) (nothing_there fs ns)).number) ∙ n in
          absurd (omega (arith, none))

  -- the rewards that are told are the words that are laid
  pub as_words : rewards_after o told rs ≡ words_after o told rs
  as_words = by (eqb o.number 0) refl
    where
      by : (b : Bool) → eqb o.number 0 ≡ b → rewards_after o told rs ≡ words_after o told rs
      by true e =
          (λ i. cond (e i) (rewards_told told rs) rs)
          ∙ sym (rewards-words (table_at fs ns) (ranks_at ranks) (accepted (eqb-true o.number 0 e)) rs)
          ∙ (λ i. cond (sym e i) (in_words told rs) rs)
      by false e = (λ i. cond (e i) (rewards_told told rs) rs) ∙ (λ i. cond (sym e i) (in_words told rs) rs)

  abbrev pub Settles : ℕ → List Float → List ℕ → List ℤ → Type 0
  Settles r fs' ns' rs' =
      (r ≡ o.number) × ((fs' ≡ floats_after (length ns) o fs) × ((ns' ≡ numbers_after (length fs) o ns) × ((rs' ≡ rewards_after o told rs) × CallStands r fs' ns' o)))

  -- the words, of lists that are as they must be
  pub words-are : {r : ℕ} {fs' : List Float} {ns' : List ℕ} {rs' : List ℤ} → Settles r fs' ns' rs' → rs' ≡ words_after o told rs
  words-are h = h.1.1.1.0 ∙ as_words

  with-rewards : (r : ℕ) (fs' : List Float) (ns' : List ℕ) (rs' : List ℤ) → Answered fs ns o r fs' ns' → rs' ≡ rewards_after o told rs → Settles r fs' ns' rs'
  with-rewards r fs' ns' rs' h g = (h.0, (h.1.0, (h.1.1.0, (g, h.1.1.1))))

  pub rewards-room : room && ok ≡ true → 16 ≤ length rs
  rewards-room h = leb-true _ _ (and_both (leb 16 (length ranks)) (leb 16 (length rs)) (and_both room ok h).0).1

  module _ (h : room && ok ≡ true) (t : GameState) (read : t ≡ table_in fs ns) (u : Settled) (list : List ℕ) (f : u ≡ settled_of t list) (g : list ≡ ranks_at ranks) where
    there : room && stands_in fs ns ≡ true
    there = (λ i. room && sym e i) ∙ h

    stands : stands_in fs ns ≡ true
    stands = (and_both room (stands_in fs ns) there).1

    settled : u ≡ settled_at fs ns ranks
    settled = f ∙ λ i. settled_of ((read ∙ table-there fs ns stands) i) (g i)

    is : judged u.answer u.table ≡ o
    is = ap paid_out settled ∙ λ i. cond (sym there i) (paid_out (settled_at fs ns ranks)) (nothing_there fs ns)

    module _ (r : ℕ) (fs' : List Float) (ns' : List ℕ) (a : After fs ns (judged u.answer u.table) r fs' ns') where
      done : Answered fs ns o r fs' ns'
      done =
          answered fs ns o r fs' ns' (stands-room fs ns stands)
          (λ z.
          let paid = stands-at-zero (settled_at fs ns ranks).answer ((λ i. (cond (sym there i) (paid_out (settled_at fs ns ranks)) (nothing_there fs ns)).number) ∙ z) in
          (λ i. sound_of (cond (there i) (paid_out (settled_at fs ns ranks)) (nothing_there fs ns)).table) ∙ stays-sound (table_at fs ns) (ranks_at ranks) paid)
          (subst (λ (w : Outcome). After fs ns w r fs' ns') is a)

      pub settled-out : (rs' : List ℤ) → r ≡ 0 → rs' ≡ rewards_told u.rewards rs → Settles 0 fs' ns' rs'
      settled-out rs' z q =
          let n : o.number ≡ 0 = sym done.0 ∙ z in
          let words : rs' ≡ rewards_told told rs = q ∙ (λ i. rewards_told (settled i).rewards rs) in
          with-rewards 0 fs' ns' rs' (subst (λ (m : ℕ). Answered fs ns o m fs' ns') z done) (words ∙ λ i. cond (sym (eq-eqb o.number 0 n) i) (rewards_told told rs) rs)

      pub not-settled : r ≢ 0 → Settles r fs' ns' rs
      not-settled z = with-rewards r fs' ns' rs done (λ i. cond (sym (ne_eqb o.number 0 (λ n. z (done.0 ∙ n))) i) (rewards_told told rs) rs)

  pub settles-nothing : room && ok ≡ false → Settles 19 fs ns rs
  settles-nothing h =
      let nothing : room && stands_in fs ns ≡ false = (λ i. room && sym e i) ∙ h in
      let is : nothing_there fs ns ≡ o = λ i. cond (sym nothing i) (paid_out (settled_at fs ns ranks)) (nothing_there fs ns) in
      with-rewards 19 fs ns rs (same_call fs ns (nothing_there fs ns) o 19 fs ns is (nothing-done fs ns)) (λ i. rewards_after (is i) told rs)
