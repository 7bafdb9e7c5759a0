-- A second settlement: winnings that grew are not 0, so it is 24 exactly where the first one paid something. Assumes nothing.
use Rattle.std.proofs.Common.{◌≡◌, ℕ, ◌<◌, true, false, ltb, ◌≢◌, List, get_or, sym, ap, ◌∙◌, ⊎_elim, eq-zero-or-pos, arith, le-ltb, lt-ltb}
use lib.Ieee.{nan, ne}
use Rattle.std.specs.Prelude.{Ok}
use Rattle.refusals.specs.declared.Refusal.TheVariants.{Added}
use Rattle.refusals.specs.declared.AddedError.TheVariants.{AlreadyPaid}
use Rattle.floats.specs.Helpers.{zerof}
use Rattle.commons.proofs.Bools.{differ, surely, never}
use Rattle.table.specs.declared.GameState.{GameState}
use Rattle.chips.specs.Whole.{chips_in}
use Rattle.commons.proofs.Folds.{sum_same, sum-part, sum-zero, any_at}
use Rattle.chips.proofs.Whole.{one_number}
use Rattle.settlement.specs.declared.Settled.{Settled}
use Rattle.settlement.specs.Settlement.{any_won, is_paid, refused, settled_of}
use Rattle.refusals.specs.Rows.{verdict_number}
use Rattle.settlement.proofs.Accepted.{accepted, already_paid, never_24}
use Rattle.settlement.proofs.Promises.{after, award_of, awards-add, none-won, winnings-is, winnings_stay, stays-sound}
use Rattle.settlement.proofs.Unpaid.{won-at, zero-at}

module _ (t : GameState) (ranks : List ℕ) (paid : (settled_of t ranks).answer ≡ Ok tt) where
  abbrev n : ℕ
  n = t.num_players

  -- winnings that are 0 after were not raised
  none-paid : any_won (after t ranks).player_winnings n ≡ false → chips_in t.total_pot ≡ 0
  none-paid f =
      sym (awards-add t ranks paid)
      ∙ sum_same n (award_of t ranks) (λ i. 0) (λ i h. omega (arith, one_number (winnings-is t ranks paid i h) (zero-at (after t ranks).player_winnings n f i h), none-won t ranks paid i h))
      ∙ sum-zero n

  -- and where nothing was paid, none of them is raised
  none-raised : chips_in t.total_pot ≡ 0 → any_won (after t ranks).player_winnings n ≡ true → ⊥
  unfolding any_won
  none-raised z y =
      let w = any_at n (λ i. ne (get_or (after t ranks).player_winnings i nan) zerof) y in
      let same = winnings_stay t ranks paid w.0 (omega (arith, sum-part n (award_of t ranks) w.0 w.1, awards-add t ranks paid)) in
      differ (any_won t.player_winnings n) (won-at t.player_winnings n w.0 w.1 (rw same at w.2)) (accepted t ranks paid).unpaid

  pub paid-after : is_paid (after t ranks) ≡ ltb 0 (chips_in t.total_pot)
  paid-after =
      let same : (after t ranks).num_players ≡ n = ap (λ (s : Settled). s.table.num_players) (accepted t ranks paid).is in
      rw same
      (⊎_elim
      (λ z. rw (le-ltb 0 (chips_in t.total_pot) (omega arith)) (never _ (none-raised z)))
      (λ p. rw (lt-ltb 0 (chips_in t.total_pot) p) (surely _ (λ f. omega (arith, none-paid f))))
      (eq-zero-or-pos (chips_in t.total_pot)))

  pub twice : 0 < chips_in t.total_pot → (again : List ℕ) → settled_of (after t ranks) again ≡ refused (after t ranks) (Added AlreadyPaid)
  twice p again = already_paid (after t ranks) again (stays-sound t ranks paid) (paid-after ∙ lt-ltb 0 (chips_in t.total_pot) p)

  pub not-twice : chips_in t.total_pot ≡ 0 → (again : List ℕ) → verdict_number (settled_of (after t ranks) again).answer ≢ 24
  not-twice z again = never_24 (after t ranks) again (paid-after ∙ le-ltb 0 (chips_in t.total_pot) (omega arith))
