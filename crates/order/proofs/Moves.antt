-- An accepted action on a record in good order, whole: a fold, or a bet whose payment the rule on whole chips allows. So the record's runs are a play of the turn
-- machine, by document 01's raise rule. Assumes nothing.
use Prim.Native.Nat.{ℕ}
use mathlib.Core.Path.{◌≡◌, refl, sym, ◌∙◌, subst}
use Rattle.chips.specs.Whole.{sum_chips}
use Rattle.chips.proofs.Rule.{rule_allows}
use Rattle.table.specs.declared.GameState.{GameState}
use Rattle.order.specs.GoodOrder.{chips_of}
use Rattle.order.specs.Step.{Action, folds, bets, Accepted, Step, due}
use Rattle.order.proofs.Good.{Good}
use Rattle.order.proofs.Raise.{base}
use Rattle.order.proofs.Play.{Taken, folds as shows-fold, pays as shows-payment, Somebody, taken-keeps, Play}
use Rattle.order.proofs.Record.{view, Whole, Sorted, somebody}
use Rattle.order.proofs.Accepted.{stake_means, fold-table, bet_took}
use Rattle.order.proofs.FoldRecord.{fold-whole, fold-shows}
use Rattle.order.proofs.PayRecord.{pays_rule, pay-whole, pay-shows}

pub record Moved (t u : GameState) : Type 0 where
  pub seats : u.num_players ≡ t.num_players
  pub taken : Taken base t.num_players (view t) (view u)
  pub whole : Whole u

module _ (t : GameState) (w : Whole t) {total : ℕ} (g : Good t.num_players total (view t)) where
  pub moves : (a : Action) (u : GameState) → Accepted t a u → Moved t u
  moves folds u (z, q) = subst (Moved t) q (rw (fold-table t w.sound) (record { seats = refl; taken = shows-fold (fold-shows t w); whole = fold-whole t w }))
  moves (bets a) u (v, z, q) =
      let m = stake_means a v in
      let k = bet_took t a z in
      let p = pays_rule t w g a m.0 m.1 (due t a) k.size in
      let r = rule_allows m.0 _ _ _ _ p.0 p.1 in
      subst (Moved t) q
      (rw k.table
      (record {
        seats = refl;
        taken = shows-payment p.0 (record { enough = r.enough; allowed = r.raises }) (pay-shows t w g (due t a) p.0 p.2 r.enough);
        whole = pay-whole t w g (due t a) p.0 p.2 r.enough;
      }))

-- ---- good order as an invariant, with the seats and the chips that the run began with
pub record Ordered (n total : ℕ) (t : GameState) : Type 0 where
  pub seats : t.num_players ≡ n
  pub whole : Whole t
  pub good : Good n total (view t)

module _ {n total : ℕ} {t : GameState} (o : Ordered n total t) where
  own-good : Good t.num_players total (view t)
  own-good = subst (λ (k : ℕ). Good k total (view t)) (sym o.seats) o.good

  pub ordered_chips : chips_of t ≡ total
  unfolding sum_chips
  ordered_chips = own-good.chips

  pub ordered_sorted : Sorted t
  ordered_sorted = (o.whole, subst (λ (c : ℕ). Good t.num_players c (view t)) (sym ordered_chips) own-good)

  ordered_moves : (a : Action) (u : GameState) → Accepted t a u → Moved t u
  ordered_moves = moves t o.whole own-good

  pub ordered_taken : (a : Action) (u : GameState) → Accepted t a u → Taken base n (view t) (view u)
  ordered_taken a u s = subst (λ (k : ℕ). Taken base k (view t) (view u)) o.seats (ordered_moves a u s).taken

  pub ordered_next : (a : Action) (u : GameState) → Accepted t a u → Good n total (view u) → Ordered n total u
  ordered_next a u s g = let m = ordered_moves a u s in record { seats = m.seats ∙ o.seats; whole = m.whole; good = g }

  -- whoever owes
  pub ordered_keeps : (a : Action) (u : GameState) → Accepted t a u → Ordered n total u
  ordered_keeps a u s = ordered_next a u s (taken-keeps o.good (ordered_taken a u s))

abbrev pub record_play : (n total : ℕ) → Play GameState Action base n total
record_play n total = record {
  view = view;
  Step = Step;
  Inv = Ordered n total;
  good = λ t o. o.good;
  owing = λ t a u o s. subst (λ (k : ℕ). Somebody k (view t)) o.seats (somebody t s.somebody);
  taken = λ t a u o s. ordered_taken o a u s.accepted;
  keeps = λ t a u o s g. ordered_next o a u s.accepted g;
}
