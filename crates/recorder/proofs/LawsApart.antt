-- Laws of what stands beside the key that the next table takes: apart from `t` and `k` that key is no matter to a line, and a line that a hand leaves out moves
-- nothing else. An accepted `t` asks of what stands only that key. Assumes nothing.
use Rattle.refusals.specs.Rows.{Verdict, verdict_number}
use Prim.Native.Nat.{ℕ}
use mathlib.Core.Path.{◌≡◌, refl, sym, ap, ◌∙◌, subst}
use mathlib.Core.Logic.{◌≢◌, ⊎_elim}
use mathlib.Core.Bool.{true, false}
use mathlib.Core.List.{List}
use borrow.Author.Tests.{eqb-true, eqb-false}
use lib.Dec.{eqb}
use lib.ListN.{take}
use Rattle.commons.proofs.Bools.{either}
use Rattle.std.specs.Prelude.{Option, Some, None, Result, Ok, Err}
use Rattle.refusals.specs.declared.AddedError.{AddedError}
use Rattle.refusals.proofs.Numbers.{numbered}
use Rattle.keys.specs.declared.HandKey.{HandKey}
use Rattle.table.specs.declared.GameState.{GameState}
use Rattle.table.proofs.LawsKey.{chosen}
use Rattle.settlement.specs.Settlement.{settled_of}
use Rattle.script.specs.declared.line.Words.{Words}
use Rattle.script.specs.declared.line.Line.{Line}
use Rattle.script.specs.declared.line.Line.TheVariants.{Table, Advance, Fold, Bet, Forced, Complete, Settle, Key}
use Rattle.script.specs.Line.{meaning_of}
use Rattle.console.specs.declared.act.State.{State}
use Rattle.console.specs.declared.act.Act.{Act}
use Rattle.console.specs.Act.{act_number, acted, bad_line, where_stands, needing, settled, ranked_at, ranked, opened, done, act_of}
use Rattle.console.specs.Opening.{opening_of}
use Rattle.console.proofs.LawsBack.{refused-keeps}
use Rattle.console.proofs.LawsKey.{key-is-put}
use Rattle.recorder.specs.Hands.{answered, after, opens, goes_in}
use Rattle.recorder.specs.Replay.{fresh_with}
use Rattle.recorder.proofs.LawsLine.{left_so, opens_so, table-refused, goes_so}

-- with another key for the next table
abbrev pub rekeyed : HandKey → State → State
rekeyed k s = record { table = s.table; key = k }

abbrev act_rekeyed : HandKey → Act → Act
act_rekeyed k a = acted a.answer (rekeyed k a.state)

-- ---- the key is no matter
module _ (k : HandKey) (s : State) where
  needing_apart : (f g : GameState → Act) → ((t : GameState) → f t ≡ act_rekeyed k (g t)) → needing (rekeyed k s) f ≡ act_rekeyed k (needing s g)
  unfolding needing
  needing_apart f g e = go s.table
    where
      go : (o : Option GameState) → where_stands (bad_line (rekeyed k s)) f o ≡ act_rekeyed k (where_stands (bad_line s) g o)
      go None = refl
      go (Some t) = e t

  ranked_apart : (count : ℕ) (ns : List ℕ) → ranked (rekeyed k s) count ns ≡ act_rekeyed k (ranked s count ns)
  unfolding ranked
  ranked_apart count ns =
      needing_apart (ranked_at (rekeyed k s) count ns) (ranked_at s count ns)
      (λ t. chosen (act_rekeyed k) (eqb count t.num_players) (settled s.key (settled_of t (take 16 ns))) (bad_line s))

  done_apart : (w : Words) (l : Result Line AddedError) → l ≢ Ok Table → l ≢ Ok Key → done (rekeyed k s) w l ≡ act_rekeyed k (done s w l)
  done_apart w (Ok Table) t n = absurd (t refl)
  done_apart w (Ok Advance) t n = needing_apart _ _ (λ t. refl)
  done_apart w (Ok Fold) t n = needing_apart _ _ (λ t. refl)
  done_apart w (Ok (Bet x)) t n = needing_apart _ _ (λ t. refl)
  done_apart w (Ok (Forced x)) t n = needing_apart _ _ (λ t. refl)
  done_apart w (Ok Complete) t n = needing_apart _ _ (λ t. refl)
  done_apart w (Ok Settle) t n = ranked_apart w.count w.numbers
  done_apart w (Ok Key) t n = absurd (n refl)
  done_apart w (Err e) t n = refl

  pub line_apart : (w : Words) → meaning_of w ≢ Ok Table → meaning_of w ≢ Ok Key → act_of w (rekeyed k s) ≡ act_rekeyed k (act_of w s)
  unfolding act_of
  line_apart w = done_apart w (meaning_of w)

-- ---- an accepted `t`: what stood is no matter but for the key, and no key stands after it
opened-same : (s u : State) (t : GameState) (v : Verdict) → verdict_number v ≡ 0 → opened u (record { answer = v; table = t }) ≡ opened s (record { answer = v; table = t })
opened-same s u t (Ok _) z = refl
opened-same s u t (Err r) z = absurd (numbered r z)

pub table-fresh : (w : Words) (s : State) → opens w s ≡ true → act_of w (fresh_with s.key) ≡ act_of w s
unfolding act_of
table-fresh w s e =
    let o = opening_of s.key w.count w.numbers in
    let q = opens_so w s e in
    subst (λ (l : Result Line AddedError). act_number (done s w l) ≡ 0 → done (fresh_with s.key) w l ≡ done s w l) (sym q.0) (opened-same s (fresh_with s.key) o.table o.answer) q.1

-- ---- a line that a hand leaves out
pub left_out : (k : HandKey) (w : Words) (s : State) → goes_in w s ≡ false → rekeyed k (after w s) ≡ rekeyed k s
left_out k w s f =
    ⊎_elim (λ z. ap (λ (a : Act). rekeyed k a.state) (key-is-put w s (left_so w s f (eqb-true _ _ z)))) (λ n. ap (rekeyed k) (refused-keeps w s (eqb-false _ _ n)))
    (either (eqb (answered w s) 0))

-- ---- a line that goes in and opens nothing
pub line_in : (k : HandKey) (w : Words) (s : State) → opens w s ≡ false → goes_in w s ≡ true → (answered w (rekeyed k s) ≡ 0) × (after w (rekeyed k s) ≡ rekeyed k (after w s))
line_in k w s f g =
    let q = goes_so w s g in
    let a = line_apart k s w (λ t. table-refused w s f t q.1) q.0 in
    (ap act_number a ∙ q.1, ap (λ (a : Act). a.state) a)
