-- Laws of an accepted `w`: it has a rank for each seat of the table, and a table that settles has at most sixteen. Assumes nothing.
use Prim.Native.Nat.{ℕ, ◌≤◌}
use native.Mathlib.Omega.{arith}
use mathlib.Core.Path.{◌≡◌, sym, subst}
use mathlib.Core.List.{List}
use borrow.Author.Tests.{eqb-true}
use lib.Dec.{eqb}
use lib.ListN.{take}
use Rattle.commons.proofs.Bools.{tested}
use Rattle.std.specs.Prelude.{Some, Result, Ok}
use Rattle.refusals.specs.declared.AddedError.{AddedError}
use Rattle.refusals.proofs.Rows.{stands-at-zero}
use Rattle.table.specs.declared.GameState.{GameState}
use Rattle.table.proofs.Sound.{sound}
use Rattle.settlement.specs.Settlement.{settled_of}
use Rattle.settlement.proofs.Accepted.{accepted}
use Rattle.script.specs.declared.line.Words.{Words}
use Rattle.script.specs.declared.line.Line.{Line}
use Rattle.script.specs.declared.line.Line.TheVariants.{Settle}
use Rattle.script.specs.Line.{meaning_of}
use Rattle.console.specs.declared.act.State.{State}
use Rattle.console.specs.declared.act.Act.{Act}
use Rattle.console.specs.Act.{act_number, bad_line, settled, ranked_at, ranked, done, act_of}
use Rattle.console.proofs.LawsAct.{needing_by}
use Rattle.recorder.specs.Hands.{answered}

-- where it is accepted a table stands, and has these seats
abbrev pub Ranks : State → ℕ → Type 0
Ranks s count = (t : GameState) × (s.table ≡ Some t) × (count ≡ t.num_players) × (t.num_players ≤ 16)

module _ (s : State) (count : ℕ) (ns : List ℕ) where
  refused-not : act_number (bad_line s) ≡ 0 → ⊥
  refused-not z = omega arith

  settled-most : (t : GameState) → act_number (settled s.key (settled_of t (take 16 ns))) ≡ 0 → t.num_players ≤ 16
  settled-most t z =
      let r = settled_of t (take 16 ns) in
      (sound t (accepted t (take 16 ns) (stands-at-zero r.answer z)).sounds).most

  ranked_so : act_number (ranked s count ns) ≡ 0 → Ranks s count
  unfolding ranked
  ranked_so =
      needing_by s (ranked_at s count ns) (λ (a : Act). act_number a ≡ 0 → Ranks s count) (λ z. absurd (refused-not z))
      (λ t i. tested (λ (a : Act). act_number a ≡ 0 → Ranks s count) (eqb count t.num_players) (settled s.key (settled_of t (take 16 ns))) (bad_line s)
      (λ e z. (t, i, eqb-true count t.num_players e, settled-most t z)) (λ e z. absurd (refused-not z)))

pub settle_so : (w : Words) (s : State) → meaning_of w ≡ Ok Settle → answered w s ≡ 0 → Ranks s w.count
unfolding act_of
settle_so w s e = subst (λ (l : Result Line AddedError). act_number (done s w l) ≡ 0 → Ranks s w.count) (sym e) (ranked_so s w.count w.numbers)
