-- An accepted line is one that the journal takes: its letter is of a hand, its count of numbers is its letter's, and they are at most twenty. Assumes nothing.
use Prim.Native.Nat.{ℕ, ◌≤◌}
use native.Mathlib.Omega.{arith}
use mathlib.Core.Path.{◌≡◌, refl, ◌∙◌}
use Rattle.std.specs.Prelude.{Some, Result, Ok, Err}
use Rattle.refusals.specs.declared.AddedError.{AddedError}
use Rattle.refusals.specs.declared.AddedError.TheVariants.{BadLine}
use Rattle.table.specs.declared.GameState.{GameState}
use mathlib.Core.Logic.{◌≢◌}
use mathlib.Core.Bool.{Bool, true, false, cond}
use mathlib.Core.List.{List, [], ◌∷◌}
use borrow.Author.Tests.{eq-eqb, le-leb}
use lib.ListN.{length, take}
use lib.Seq.{length-take-le}
use Rattle.commons.proofs.Bools.{tested}
use Rattle.script.specs.declared.line.Words.{Words}
use Rattle.script.specs.declared.line.Line.{Line}
use Rattle.script.specs.declared.line.Line.TheVariants.{Table, Settle, Key}
use Rattle.script.specs.Line.{meaning_of}
use Rattle.console.specs.declared.act.State.{State}
use Rattle.journal.specs.Lines.{count_ok}
use Rattle.journal.specs.Tape.{line_ok}
use Rattle.recorder.specs.Hands.{after, opens, goes_in, lines_until}
use Rattle.recorder.proofs.LawsHands.{Each, none, more}
use Rattle.recorder.proofs.LawsHeld.{Kept}
use Rattle.recorder.proofs.LawsLine.{Asks, table, advance, fold, bet, forced, complete, settle, key, bad, asks_it, not-bad, table-letter, table-count, opens_so, table-refused, goes_so}
use Rattle.recorder.proofs.LawsSettle.{Ranks, settle_so}
use Rattle.recorder.proofs.LawsTable.{opens-short}
use Rattle.recorder.proofs.LawsWords.{Proper, numbers-long}

-- ---- the count of a line that is no `t` and no `k`, where there are so many seats
abbrev Right : ℕ → ℕ → ℕ → Type 0
Right letter seats count = (count_ok letter seats count ≡ true) × (count ≤ 20)

right-count : {l n x : ℕ} {m : Result Line AddedError} (seats : ℕ) → Asks l n x m → m ≢ Ok Table → m ≢ Ok Key → m ≢ Err BadLine → (m ≡ Ok Settle → (n ≡ seats) × (seats ≤ 16)) → Right l seats n
unfolding count_ok
right-count seats (table e f) t k b s = absurd (t refl)
right-count seats (advance e f) t k b s = rw (e, f) (refl, omega arith)
right-count seats (fold e f) t k b s = rw (e, f) (refl, omega arith)
right-count seats (bet e f) t k b s = rw (e, f) (refl, omega arith)
right-count seats (forced e f) t k b s = rw (e, f) (refl, omega arith)
right-count seats (complete e f) t k b s = rw (e, f) (refl, omega arith)
right-count {n = n} seats (settle e) t k b s = let q = s refl in rw e (eq-eqb n seats q.0, omega arith)
right-count seats (key e f) t k b s = absurd (k refl)
right-count seats bad t k b s = absurd (b refl)

-- ---- what goes in
module _ (w : Words) (s : State) where
  -- of a line that goes in and opens nothing
  counts_so : opens w s ≡ false → goes_in w s ≡ true → (seats : ℕ) → (meaning_of w ≡ Ok Settle → (w.count ≡ seats) × (seats ≤ 16)) → Right w.letter seats w.count
  counts_so f g seats h =
      let q = goes_so w s g in
      right-count seats (asks_it w) (λ e. table-refused w s f e q.1) q.0 (not-bad w s q.1) h

  settles : goes_in w s ≡ true → meaning_of w ≡ Ok Settle → Ranks s w.count
  settles g e = settle_so w s e (goes_so w s g).1

  pub line-counts : opens w s ≡ false → goes_in w s ≡ true → (seats : ℕ) → ((t : GameState) → s.table ≡ Some t → t.num_players ≡ seats) → Right w.letter seats w.count
  line-counts f g seats h = counts_so f g seats (λ e. let q = settles g e in let n = h q.0 q.1 in (q.2 ∙ n, omega (arith, n, q.3)))

  -- its own count is right where `w` may have any
  line_takes : opens w s ≡ false → goes_in w s ≡ true → Right w.letter w.count w.count
  line_takes f g = counts_so f g w.count (λ e. let q = settles g e in (refl, omega (arith, q.2, q.3)))

  -- a `t` that opens a hand
  pub opening-counts : opens w s ≡ true → (seats : ℕ) → Right w.letter seats w.count
  unfolding count_ok
  opening-counts e seats = let q = opens_so w s e in rw (table-letter w q.0) (le-leb 4 w.count (table-count w q.0), opens-short w s e)

-- all its numbers are there
pub all_there : (w : Words) → Proper w → w.count ≤ 20 → length (take w.count w.numbers) ≡ w.count
all_there w p h = length-take-le w.count w.numbers (omega (arith, numbers-long p))

takes_it : (w : Words) → Proper w → Right w.letter w.count w.count → Kept w
unfolding line_ok
takes_it w p r = rw (all_there w p r.1) r.0

-- ---- the lines after a `t`, one by one
module _ (W P : Words → Type 0) (I : State → Type 0) where
  abbrev pub Keeps : Type 0
  Keeps = (w : Words) (s : State) → opens w s ≡ false → I s → I (after w s)

  abbrev pub Goes : Type 0
  Goes = (w : Words) (s : State) → I s → W w → opens w s ≡ false → goes_in w s ≡ true → P w

  goes_each : (w : Words) (ls : List Words) (g : Bool) → (g ≡ true → P w) → Each P ls → Each P (cond g (w ∷ ls) ls)
  goes_each w ls true p a = more (p refl) a
  goes_each w ls false p a = a

  pub each_until : Keeps → Goes → (ws : List Words) (s : State) → I s → Each W ws → Each P (lines_until s ws)
  unfolding lines_until
  each_until keeps goes [] s i none = none
  each_until keeps goes (w ∷ ws) s i (more p a) =
      let rest = lines_until (after w s) ws in
      tested (Each P) (opens w s) [] (cond (goes_in w s) (w ∷ rest) rest) (λ e. none)
      (λ f. goes_each w rest (goes_in w s) (λ g. goes w s i p f g) (each_until keeps goes ws (after w s) (keeps w s f i) a))

pub kept-lines : (s : State) (w : Words) (ws : List Words) → opens w s ≡ true → Proper w → Each Proper ws → Each Kept (w ∷ lines_until (after w s) ws)
kept-lines s w ws e p a =
    more (takes_it w p (opening-counts w s e w.count))
    (each_until Proper Kept (λ s. Unit {0}) (λ w s f i. tt) (λ w s i p f g. takes_it w p (line_takes w s f g)) ws (after w s) tt a)
