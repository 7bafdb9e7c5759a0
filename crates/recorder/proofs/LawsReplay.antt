-- A recorded hand, played again from its key, is accepted line by line and comes to the table that stood when the hand was closed (`hands_replay`).
-- Assumes nothing.
use Prim.Native.Nat.{ℕ, suc, ◌+◌}
use native.Mathlib.Omega.{arith}
use mathlib.Core.Path.{◌≡◌, refl, sym, ◌∙◌}
use mathlib.Core.Bool.{Bool, true, false, cond}
use mathlib.Core.List.{List, [], ◌∷◌, Memᴰ}
use borrow.Author.Tests.{eq-eqb}
use lib.Dec.{eqb}
use lib.ListN.{length}
use Rattle.keys.specs.declared.HandKey.{HandKey}
use Rattle.keys.specs.Keys.{no_key}
use Rattle.script.specs.declared.line.Words.{Words}
use Rattle.console.specs.declared.act.State.{State}
use Rattle.std.specs.Prelude.{Some, Ok}
use Rattle.table.specs.declared.GameState.{GameState}
use Rattle.console.specs.Act.{act_number, on_table}
use Rattle.console.proofs.LawsKey.{table_takes_key}
use Rattle.recorder.specs.Hands.{answered, after, opens, goes_in, lines_until, state_until, Recorded, opened, hands_of}
use Rattle.recorder.specs.Replay.{replayed, played_on, fresh_with, replay_of}
use Rattle.recorder.proofs.LawsHands.{each_of, every_hand}
use Rattle.recorder.proofs.LawsLine.{opens_so}
use Rattle.recorder.proofs.LawsApart.{rekeyed, table-fresh, left_out, line_in}
use Rattle.recorder.proofs.LawsTable.{Standing, until_keeps, stacks_in, opens-stands}

-- ---- the lines after the `t`
module _ (k : HandKey) where
  abbrev Plays : ℕ → State → List Words → State → Type 0
  Plays n s ws t = played_on n (rekeyed k s) ws ≡ replayed (Ok tt) (n + length ws) (rekeyed k t)

  none_left : (n : ℕ) (s : State) → Plays n s [] s
  unfolding played_on
  none_left n s = let e : n ≡ n + 0 = omega arith in λ i. replayed (Ok tt) (e i) (rekeyed k s)

  one_line : (n : ℕ) (s t : State) (w : Words) (ws : List Words) (o g : Bool) → opens w s ≡ o → goes_in w s ≡ g → ((m : ℕ) → Plays m (after w s) ws t)
      → Plays n s (cond o [] (cond g (w ∷ ws) ws)) (cond o s t)
  unfolding played_on
  one_line n s t w ws true g eo eg rest = none_left n s
  one_line n s t w ws false true eo eg rest =
      let q = line_in k w s eo eg in
      let e : suc n + length ws ≡ n + suc (length ws) = omega arith in
      rw (eq-eqb _ _ q.0) (λ i. played_on (suc n) (q.1 i) ws) ∙ rest (suc n) ∙ (λ i. replayed (Ok tt) (e i) (rekeyed k t))
  one_line n s t w ws false false eo eg rest = (λ i. played_on n (sym (left_out k w s eg) i) ws) ∙ rest n

  pub plays-on : (ws : List Words) (n : ℕ) (s : State) → Plays n s (lines_until s ws) (state_until s ws)
  unfolding lines_until state_until
  plays-on [] n s = none_left n s
  plays-on (w ∷ ws) n s = one_line n s (state_until (after w s) ws) w (lines_until (after w s) ws) (opens w s) (goes_in w s) refl refl (λ m. plays-on ws m (after w s))

-- ---- a hand from its `t` on
pub record Replays (h : Recorded) : Type 0 where
  pub table : GameState
  pub stands : h.ended.table ≡ Some table
  pub again : replay_of h.key h.lines ≡ replayed (Ok tt) (length h.lines) (on_table table no_key)
  pub key : table.added.key ≡ h.key

module _ (s : State) (w : Words) (ws : List Words) (e : opens w s ≡ true) where
  abbrev ls : List Words
  ls = lines_until (after w s) ws

  abbrev end : State
  end = state_until (after w s) ws

  accepted : answered w s ≡ 0
  accepted = (opens_so w s e).1

  standing : Standing s.key (stacks_in w) end
  standing = until_keeps ws (after w s) (opens-stands w s e)

  -- the `t` is accepted again, and leaves no key
  first-line : replay_of s.key (w ∷ ls) ≡ played_on 1 (rekeyed no_key (after w s)) ls
  unfolding played_on
  first-line =
      let a = table-fresh w s e in
      let k : (after w s).key ≡ no_key = (table_takes_key w s (opens_so w s e).0 accepted).3 in
      (λ i. cond (eqb (act_number (a i)) 0) (played_on 1 (a i).state ls) (replayed (a i).answer 0 (fresh_with s.key)))
      ∙ rw (eq-eqb _ _ accepted) (λ i. played_on 1 (rekeyed (k i) (after w s)) ls)

  opened_replays : Replays (opened s w ws)
  opened_replays = record {
    table = standing.table;
    again =
        let n : 1 + length ls ≡ suc (length ls) = omega arith in
        first-line ∙ plays-on no_key ws 1 (after w s) ∙ (λ i. replayed (Ok tt) (n i) (record { table = standing.stands i; key = no_key }));
    stands = standing.stands;
    key = standing.key;
  }

-- ---- every hand of a run of lines, from whatever stands before them
pub hands_replay : (ws : List Words) (s : State) (h : Recorded) → Memᴰ h (hands_of s ws) → Replays h
hands_replay ws s = every_hand (λ w. Unit {0}) (λ s. Unit {0}) Replays (λ w s p i. tt) (λ s w ws i p a e. opened_replays s w ws e) ws s tt (each_of (λ w. tt) ws)
