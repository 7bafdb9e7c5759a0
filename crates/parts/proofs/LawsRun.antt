-- A run of bets, bet by bet; and laid: it stands in the lists where it answers 0, and nothing is written where it answers 19. Assumes nothing.
use Rattle.std.specs.Prelude.{Result, Ok, Err}
use Prim.Native.Nat.{ℕ, zero, suc, ◌+◌, ◌≤◌}
use native.Mathlib.Omega.{arith}
use native.Mathlib.Numerals.{add-one}
use mathlib.Core.Path.{◌≡◌, refl, sym, subst, ap, ◌∙◌}
use mathlib.Core.Bool.{Bool, true, false, cond, ◌&&◌}
use mathlib.Core.List.{List}
use lib.ListN.{get_or, length}
use lib.Ieee.{Float, nan}
use Rattle.commons.proofs.Bools.{and_both}
use Rattle.refusals.specs.declared.Refusal.{Refusal}
use Rattle.table.specs.declared.GameState.{GameState}
use Rattle.table.specs.declared.BetStep.{BetStep}
use Rattle.table.specs.declared.Paid.{Paid}
use Rattle.table.specs.Pay.{bet_of}
use Rattle.table.specs.Sound.{sound_of}
use Rattle.table.proofs.LawsSound.{bet-sound}
use Rattle.table.proofs.LawsKey.{bet-carries}
use Rattle.layout.specs.Outcome.{Outcome, outcome, floats_after, numbers_after}
use Rattle.layout.specs.Standing.{stands_in, table_at, table_in}
use Rattle.layout.proofs.LawsOutcome.{After, refused-after}
use Rattle.layout.proofs.LawsRead.{table-there, stands-room}
use Rattle.parts.specs.Run.{paid_after, one_if_taken, with_bet, ran_to, can_run, nothing_run, run_on, Stands}

pub taken-most : (a : Result Paid Refusal) → one_if_taken a ≤ 1
taken-most (Ok p) = omega arith
taken-most (Err r) = omega arith

module _ (l : List Float) (t : GameState) where
  -- after k bets: the table, what was paid, and how many were taken
  pub record Ran (k : ℕ) (u : GameState) (paid : Float) (n : ℕ) : Type 0 where
    pub is : outcome 0 u paid n ≡ ran_to k l t
    pub most : n ≤ k

  pub begins : (paid : Float) → paid ≡ (ran_to 0 l t).paid → Ran 0 t paid 0
  unfolding ran_to
  begins paid e = record { is = λ i. outcome 0 t (e i) 0; most = omega arith }

  pub goes_on : (k n m : ℕ) (u : GameState) (x y : Float) (s : BetStep)
      → Ran k u x n
      → s ≡ bet_of u (get_or l k nan) false
      → y ≡ paid_after x s.answer
      → m ≡ one_if_taken s.answer
      → Ran (k + 1) s.table y (n + m)
  unfolding ran_to
  goes_on k n m u x y s r e f g = record {
    is =
        (λ i. outcome 0 s.table (f i) (n + g i))
        ∙ (λ i. outcome 0 (e i).table (paid_after x (e i).answer) (n + one_if_taken (e i).answer))
        ∙ ap (λ (o : Outcome). with_bet o (get_or l k nan)) r.is
        ∙ λ i. ran_to (sym (add-one k) i) l t;
    most = omega (arith, r.most, taken-most s.answer, g);
  }

  pub ends : (k n w : ℕ) (u : GameState) (x : Float) → Ran k u x n → k ≤ w → w ≤ k → outcome 0 u x n ≡ ran_to w l t
  ends k n w u x r h g = let e : k ≡ w = omega arith in r.is ∙ λ i. ran_to (e i) l t

  pub ran-number : (k : ℕ) → (ran_to k l t).number ≡ 0
  unfolding ran_to
  ran-number zero = refl
  ran-number (suc k) = refl

  ran-sound : (k : ℕ) → sound_of t ≡ true → sound_of (ran_to k l t).table ≡ true
  unfolding ran_to
  ran-sound zero p = p
  ran-sound (suc k) p = bet-sound (ran_to k l t).table (ran-sound k p) (get_or l k nan) false

  -- the key is that of the table at the start
  pub ran-carries : (k : ℕ) → (ran_to k l t).table.added ≡ t.added
  unfolding ran_to
  ran-carries zero = refl
  ran-carries (suc k) = bet-carries (ran_to k l t).table (get_or l k nan) false ∙ ran-carries k

-- ---- the run of the table in the lists
module _ (fs : List Float) (ns : List ℕ) (l : List Float) where
  -- the number, the lists after it, and that its table stands there
  abbrev pub Answered : Outcome → ℕ → List Float → List ℕ → Type 0
  Answered o r fs' ns' = (r ≡ o.number) × ((fs' ≡ floats_after (length ns) o fs) × ((ns' ≡ numbers_after (length fs) o ns) × Stands r fs' ns' o))

  -- ok is what the test for a table gave
  module _ (ok : Bool) (e : ok ≡ stands_in fs ns) (t : GameState) (read : t ≡ table_in fs ns) (sound : Bool) (f : sound ≡ sound_of t) where
    is-table : ok ≡ true → t ≡ table_at fs ns
    is-table h = read ∙ table-there fs ns (sym e ∙ h)

    can_run_lem : ok && sound ≡ can_run fs ns
    can_run_lem = (λ i. ok && f i) ∙ by ok refl
      where
        by : (b : Bool) → ok ≡ b → ok && sound_of t ≡ can_run fs ns
        by true h = (λ i. e i && sound_of (is-table h i))
        by false h = (λ i. h i && sound_of t) ∙ λ i. (sym h ∙ e) i && sound_of (table_at fs ns)

    pub run_done : (o : Outcome) (r : ℕ) (fs' : List Float) (ns' : List ℕ)
        → ok && sound ≡ true
        → o ≡ ran_to (length l) l t
        → After fs ns o r fs' ns'
        → Answered (run_on fs ns l) r fs' ns'
    run_done o r fs' ns' h g a =
        let both = sym can_run_lem ∙ h in
        let c = and_both (stands_in fs ns) (sound_of (table_at fs ns)) both in
        let is : o ≡ ran_to (length l) l (table_at fs ns) = g ∙ ap (ran_to (length l) l) (read ∙ table-there fs ns c.0) in
        let b = subst (λ (v : Outcome). After fs ns v r fs' ns') is a in
        subst (λ (v : Outcome). Answered v r fs' ns') (λ i. cond (sym both i) (ran_to (length l) l (table_at fs ns)) nothing_run)
        (b.0, (b.1.0, (b.1.1.0, λ z. b.1.1.1 (sym b.0 ∙ z) (stands-room fs ns c.0) (ran-sound l (table_at fs ns) (length l) c.1))))

    pub run_nothing : ok && sound ≡ false → Answered (run_on fs ns l) 19 fs ns
    run_nothing h =
        let n = refused-after fs ns nothing_run 19 refl (λ z. omega (arith, z)) in
        subst (λ (v : Outcome). Answered v 19 fs ns) (λ i. cond (sym (sym can_run_lem ∙ h) i) (ran_to (length l) l (table_at fs ns)) nothing_run)
        (refl, (n.1.0, (n.1.1.0, λ z. absurd (omega (arith, z)))))
