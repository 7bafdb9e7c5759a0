-- A script played from its start: what it prints, and the table at its end laid into the lists. Assumes nothing.
use Rattle.std.specs.Prelude.{Option, Some, None, Ok, unwrap_or}
use Rattle.std.specs.Option.{is_some}
use Rattle.std.proofs.lemmas.Bool.{false≢true}
use Rattle.refusals.specs.Rows.{Verdict}
use Prim.Native.Nat.{ℕ}
use mathlib.Core.Path.{◌≡◌, refl, sym, subst, ap, ◌∙◌}
use mathlib.Core.Bool.{true, false}
use mathlib.Core.List.{List}
use lib.ListN.{length}
use lib.Ieee.{Float}
use Rattle.commons.proofs.Bools.{turned}
use Rattle.refusals.specs.Rows.{judge}
use Rattle.refusals.proofs.Rows.{fails-at, stands-at-zero}
use Rattle.table.specs.declared.GameState.{GameState}
use Rattle.table.specs.Sound.{sound_of}
use Rattle.table.specs.With.{no_table}
use Rattle.console.specs.declared.play.Console.{Console}
use Rattle.console.specs.declared.play.Played.{Played}
use Rattle.console.specs.Ending.{end_of}
use Rattle.console.specs.Play.{at_start}
use Rattle.console.specs.Parts.{script_part, played_of, over}
use Rattle.console.proofs.LawsStanding.{end-sound}
use Rattle.layout.specs.Outcome.{Outcome}
use Rattle.layout.specs.Standing.{room_for}
use Rattle.layout.proofs.LawsOutcome.{After}
use Rattle.peatcloak.specs.Calls.{judged}
use Rattle.peatcloak.specs.Playing.{play_rows, play_table_rows, play_table_on}
use Rattle.peatcloak.proofs.LawsCalls.{Answered}

pub from_start : (script out out' : List ℕ) (c : Console) (p : Played)
    → c ≡ at_start
    → p ≡ played_of (script_part script 0 c (length out))
    → out' ≡ over (script_part script 0 c (length out)).bytes out
    → (p.len ≡ length (script_part script 0 at_start (length out)).bytes) × (out' ≡ over (script_part script 0 at_start (length out)).bytes out)
from_start script out out' c p e f g = (
  ap (λ (q : Played). q.len) f ∙ ap (λ (b : Console). length (script_part script 0 b (length out)).bytes) e,
  g ∙ ap (λ (b : Console). over (script_part script 0 b (length out)).bytes out) e,
)

-- ---- the table at its end: where nothing is refused there is room, one stands, and it is sound
module _ (fs : List Float) (ns script : List ℕ) where
  abbrev verdict : Verdict
  verdict = judge (play_table_rows fs ns script)

  room-there : verdict ≡ Ok tt → room_for (length fs) (length ns) ≡ true
  room-there e = turned (room_for (length fs) (length ns)) false (fails-at (play_table_rows fs ns script) e 0)

  -- the table that stands, or zeros
  abbrev table_or : Option GameState → GameState
  table_or o = unwrap_or o no_table

  sound-there : verdict ≡ Ok tt → sound_of (table_or (end_of script).table) ≡ true
  sound-there e = by (end_of script).table refl
    where
      by : (o : Option GameState) → (end_of script).table ≡ o → sound_of (table_or (end_of script).table) ≡ true
      by (Some t) q = (λ i. sound_of (table_or (q i))) ∙ end-sound script t q
      by None q =
          let z : false ≡ true = sym (ap is_some q) ∙ turned (is_some (end_of script).table) false (fails-at (play_table_rows fs ns script) e 2) in
          absurd (false≢true z)

  pub table-played : (o : Option GameState) (v : Verdict) (r : ℕ) (fs' : List Float) (ns' : List ℕ) → o ≡ (end_of script).table → v ≡ judge (play_rows (length fs) (length ns) (length script) (is_some o)) → After fs ns (judged v (table_or o)) r fs' ns'
      → Answered fs ns (play_table_on fs ns script) r fs' ns'
  table-played o v r fs' ns' e f a =
      let f' : v ≡ verdict = f ∙ λ i. judge (play_rows (length fs) (length ns) (length script) (is_some (e i))) in
      let h = subst (λ (o : Outcome). After fs ns o r fs' ns') (λ i. judged (f' i) (table_or (e i))) a in
      let stands : r ≡ 0 → verdict ≡ Ok tt = λ z. stands-at-zero verdict (sym h.0 ∙ z) in
      (h.0, (h.1.0, (h.1.1.0, λ z. h.1.1.1 (sym h.0 ∙ z) (room-there (stands z)) (sound-there (stands z)))))
