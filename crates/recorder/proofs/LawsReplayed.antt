-- A hand played again. Where it is accepted a table stands at its end, it is sound, and its key is the hand's: the hand's one `t` opened it, and every line
-- after that kept it. Assumes nothing.
use Prim.Native.Nat.{ℕ, suc, ◌-◌, ◌<◌}
use mathlib.Core.Path.{◌≡◌, refl, sym, ap, ◌∙◌, subst}
use mathlib.Core.Logic.{⊎_elim}
use mathlib.Core.Bool.{true, false, not, ◌&&◌}
use mathlib.Core.List.{List, [], ◌∷◌, map}
use borrow.Author.Tests.{eqb-false}
use lib.Dec.{eqb, leb}
use lib.ListN.{length}
use Rattle.commons.proofs.Bools.{either, and_both, differ, pick, turned}
use Rattle.refusals.specs.declared.Refusal.TheVariants.{Journal}
use Rattle.refusals.proofs.Numbers.{numbered}
use Rattle.keys.specs.declared.HandKey.{HandKey}
use Rattle.std.specs.Prelude.{Some, Result, Ok, Err}
use Rattle.refusals.specs.declared.JournalError.{JournalError}
use native.Mathlib.Omega.{arith}
use Rattle.table.specs.declared.GameState.{GameState}
use Rattle.table.specs.Sound.{sound_of}
use Rattle.script.specs.declared.line.Words.{Words}
use Rattle.script.specs.Ascii.{is}
use Rattle.console.specs.declared.act.State.{State}
use Rattle.console.specs.Act.{act_of}
use Rattle.console.proofs.LawsStanding.{Sound, line-sound}
use Rattle.journal.specs.declared.hand.HandHead.{HandHead}
use Rattle.journal.specs.Check.{byte}
use Rattle.journal.specs.Hand.{words_of, reads}
use Rattle.journal.specs.Lines.{Line, all_small, count_ok, rest_ok, lines_ok, lines_of}
use Rattle.journal.specs.Reading.{as_played}
use Rattle.journal.proofs.Hands.{lines_image}
use Rattle.recorder.specs.declared.replaying.Replayed.{Replayed}
use Rattle.recorder.specs.Hands.{answered, after, opens}
use Rattle.recorder.specs.Replay.{replay_number, replayed, played_on, fresh_with, replay_of, replay_read, replay_bytes}
use Rattle.recorder.proofs.LawsTable.{Standing, line-stands, opens-stands}

-- ---- lines one after another
played-sound : (ws : List Words) (c : ℕ) (s : State) → Sound s → Sound (played_on c s ws).state
unfolding played_on
played-sound [] c s p = p
played-sound (w ∷ ws) c s p =
    pick (λ (x : Replayed). Sound x.state) (eqb (answered w s) 0) (played_on (suc c) (after w s) ws) (replayed (act_of w s).answer c s) (played-sound ws (suc c) (after w s) (line-sound s p w)) p

no_table_lem : (l : Line) (s : State) → is l.name "t" ≡ false → opens (as_played l) s ≡ false
unfolding opens
no_table_lem l s e = simp e

module _ {k : HandKey} {n : ℕ} where
  rest-stands : (stacks : ℕ) (ls : List Line) (c : ℕ) (s : State) → rest_ok stacks ls ≡ true → Standing k n s → Standing k n (played_on c s (map as_played ls)).state
  unfolding played_on rest_ok
  rest-stands stacks [] c s r h = h
  rest-stands stacks (l ∷ ls) c s r h =
      let w = as_played l in
      let a = and_both (not (is l.name "t")) (count_ok l.name stacks (length l.numbers) && (all_small l.numbers && rest_ok stacks ls)) r in
      let b = and_both (count_ok l.name stacks (length l.numbers)) (all_small l.numbers && rest_ok stacks ls) a.1 in
      let more = (and_both (all_small l.numbers) (rest_ok stacks ls) b.1).1 in
      let shut = no_table_lem l s (turned (is l.name "t") true a.0) in
      pick (λ (x : Replayed). Standing k n x.state) (eqb (answered w s) 0) (played_on (suc c) (after w s) (map as_played ls)) (replayed (act_of w s).answer c s) (rest-stands stacks ls (suc c) (after w s) more (line-stands w s shut h)) h

-- ---- a hand from its `t` on
record Ends (k : HandKey) (p : Replayed) : Type 0 where
  table : GameState
  stands : p.state.table ≡ Some table
  sound : sound_of table ≡ true
  key : table.added.key ≡ k

fresh-sound : (k : HandKey) → Sound (fresh_with k)
fresh-sound k t e = absurd (let z : ◌≡◌ {A = ℕ} 0 1 = cc in omega arith)

module _ (k : HandKey) (t : Line) (ls : List Line) (e : lines_ok (t ∷ ls) ≡ true) where
  abbrev w : Words
  w = as_played t

  abbrev s : State
  s = fresh_with k

  abbrev p : Replayed
  p = replay_of k (map as_played (t ∷ ls))

  abbrev stacks : ℕ
  stacks = length t.numbers - 4

  parts : (is t.name "t" ≡ true) × (rest_ok stacks ls ≡ true)
  unfolding lines_ok
  parts =
      let a = and_both (is t.name "t") (leb 4 (length t.numbers) && (all_small t.numbers && rest_ok stacks ls)) e in
      let b = and_both (leb 4 (length t.numbers)) (all_small t.numbers && rest_ok stacks ls) a.1 in
      (a.0, (and_both (all_small t.numbers) (rest_ok stacks ls) b.1).1)

  goes_on : eqb (answered w s) 0 ≡ true → p ≡ played_on 1 (after w s) (map as_played ls)
  unfolding played_on
  goes_on a = simp a

  stops : eqb (answered w s) 0 ≡ false → replay_number p ≡ answered w s
  unfolding played_on
  stops f = simp f

  opened : eqb (answered w s) 0 ≡ true → opens w s ≡ true
  unfolding opens
  opened a = simp (parts.0, a)

  hand_ends : replay_number p ≡ 0 → Ends k p
  hand_ends z =
      ⊎_elim
      (λ a.
      let standing = rest-stands stacks ls 1 (after w s) parts.1 (opens-stands w s (opened a)) in
      subst (Ends k) (sym (goes_on a)) (record { table = standing.table; stands = standing.stands; sound = played-sound (map as_played ls) 1 (after w s) (line-sound s (fresh-sound k) w) standing.table standing.stands; key = standing.key }))
      (λ f. absurd (eqb-false (answered w s) 0 f (sym (stops f) ∙ z)))
      (either (eqb (answered w s) 0))

lines_end : (k : HandKey) (ls : List Line) → lines_ok ls ≡ true → replay_number (replay_of k (map as_played ls)) ≡ 0 → Ends k (replay_of k (map as_played ls))
unfolding lines_ok
lines_end k [] e z = absurd (differ false e refl)
lines_end k (t ∷ ls) e z = hand_ends k t ls e z

-- ---- the bytes of a hand: a table stands at its end, and is sound, with the hand's key
abbrev pub StandsSound : Replayed → Type 0
StandsSound p = (t : GameState) × (p.state.table ≡ Some t) × (sound_of t ≡ true)

abbrev pub StandsKeyed : Replayed → HandKey → Type 0
StandsKeyed p k = (t : GameState) × (p.state.table ≡ Some t) × (t.added.key ≡ k)

module _ (b : List ℕ) (small : (i : ℕ) → byte b i < 256) where
  read-ends : (h : HandHead) → reads b ≡ Ok h → replay_number (replay_bytes b) ≡ 0 → Ends h.title.key (replay_bytes b)
  unfolding replay_bytes replay_read
  read-ends h e z =
      let is : replay_bytes b ≡ replay_read b (Ok h) = ap (replay_read b) e in
      subst (Ends h.title.key) (sym is) (lines_end h.title.key (lines_of (words_of b)) (lines_image b small h e).0 (ap replay_number (sym is) ∙ z))

  bytes-sound : (r : Result HandHead JournalError) → reads b ≡ r → replay_number (replay_bytes b) ≡ 0 → StandsSound (replay_bytes b)
  unfolding replay_bytes replay_read
  bytes-sound (Err e) q z = absurd (numbered (Journal e) (ap (λ (r : Result HandHead JournalError). replay_number (replay_read b r)) (sym q) ∙ z))
  bytes-sound (Ok h) q z = let r = read-ends h q z in (r.table, r.stands, r.sound)

  pub replay_sound : replay_number (replay_bytes b) ≡ 0 → StandsSound (replay_bytes b)
  replay_sound = bytes-sound (reads b) refl

  -- the table that an accepted replay leads to has the hand's key
  pub replay_key : (h : HandHead) → reads b ≡ Ok h → replay_number (replay_bytes b) ≡ 0 → StandsKeyed (replay_bytes b) h.title.key
  replay_key h e z = let r = read-ends h e z in (r.table, r.stands, r.key)
