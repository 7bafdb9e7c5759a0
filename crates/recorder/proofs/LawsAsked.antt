-- The hands of a script asked for one by one are the hands of the script: from each place on the next one is that which opens at the next accepted `t`, and the others
-- are those from where it is closed. Assumes nothing.
use Prim.Native.Nat.{ℕ, ◌+◌, ◌≤◌, ◌<◌}
use native.Mathlib.Omega.{arith}
use mathlib.Core.Path.{◌≡◌, refl, sym, ap, ◌∙◌}
use mathlib.Core.Logic.{◌⊎◌, inl, inr, ⊎_elim}
use mathlib.Core.Bool.{Bool, true, false, cond}
use mathlib.Core.List.{List, [], ◌∷◌, map}
use lib.ListN.{length, drop}
use Rattle.commons.proofs.Order.{lt_or_le}
use Rattle.script.specs.declared.line.Words.{Words}
use Rattle.script.specs.Split.{lines}
use Rattle.script.specs.Words.{words_of}
use Rattle.script.specs.Read.{line_from, read_at}
use Rattle.script.proofs.LawsRead.{lines_from, next_place}
use Rattle.console.specs.declared.act.State.{State}
use Rattle.console.proofs.LawsWhole.{rest_lines}
use Rattle.recorder.specs.declared.recording.Place.{Place}
use Rattle.recorder.specs.Hands.{after, opens, state_until, hands_of}
use Rattle.recorder.specs.Taking.{place, opens_at, next_table, words_from, lines_at, closed_at, hand_at}
use Rattle.recorder.proofs.LawsTaking.{no_more}

module _ (script : List ℕ) where
  -- the line that a place names opens a hand, or the script ends there
  abbrev Stops : Place → Type 0
  Stops p = (length script ≤ p.at) ⊎ ((p.at < length script) × (opens (read_at script p.at).words p.state ≡ true))

  -- what is left from a place on is what is left from the next accepted `t` on
  pub record Skips (at : ℕ) (s : State) (ws : List Words) (p : Place) : Type 0 where
    pub hands : hands_of s ws ≡ hands_of p.state (words_from script p.at)
    pub state : state_until s ws ≡ p.state
    pub up : at ≤ p.at
    pub stops : Stops p

  -- the first of the lines from a place on is the line there
  line-here : (l : List ℕ) (ls : List (List ℕ)) (at : ℕ) → l ∷ ls ≡ lines (drop at script) → (at < length script) × (words_of l ≡ (read_at script at).words)
  unfolding read_at
  line-here l ls at e = ⊎_elim some (λ n. absurd (let q = no_more script at n in let z : ◌≡◌ {A = ℕ} 0 1 = cc in omega arith)) (lt_or_le at (length script))
    where
      some : at < length script → (at < length script) × (words_of l ≡ words_of (line_from script at))
      some h =
          let f : l ∷ ls ≡ line_from script at ∷ lines (drop (read_at script at).next script) = e ∙ lines_from script at h in
          let i : l ≡ line_from script at = cc in
          (h, ap words_of i)

  ends-here : (at : ℕ) → [] ≡ lines (drop at script) → length script ≤ at
  ends-here at e = ⊎_elim (λ h. absurd (let f = lines_from script at h in let z : ◌≡◌ {A = ℕ} 0 1 = cc in omega arith)) (λ n. n) (lt_or_le at (length script))

  one_line : (l : List ℕ) (ls : List (List ℕ)) (at : ℕ) (s : State) (o : Bool) (p : Place) → l ∷ ls ≡ lines (drop at script) → opens (words_of l) s ≡ o
      → Skips (at + length l + 1) (after (words_of l) s) (map words_of ls) p → Skips at s (words_of l ∷ map words_of ls) (cond o (place at s) p)
  unfolding hands_of state_until
  one_line l ls at s true p e o rest =
      let q = line-here l ls at e in
      record { hands = ap (λ (x : List (List ℕ)). hands_of s (map words_of x)) e; state = rw o refl; up = omega arith; stops = inr (q.0, ap (λ (w : Words). opens w s) (sym q.1) ∙ o) }
  one_line l ls at s false p e o rest = record { hands = rw o rest.hands; state = rw o rest.state; up = omega (arith, rest.up); stops = rest.stops }

  skips : (ls : List (List ℕ)) (at : ℕ) (s : State) → ls ≡ lines (drop at script) → Skips at s (map words_of ls) (opens_at at s ls)
  unfolding opens_at hands_of state_until
  skips [] at s e = record { hands = ap (λ (x : List (List ℕ)). hands_of s (map words_of x)) e; state = refl; up = omega arith; stops = inl (ends-here at e) }
  skips (l ∷ ls) at s e =
      let next = at + length l + 1 in
      one_line l ls at s (opens (words_of l) s) (opens_at next (after (words_of l) s) ls) e refl (skips ls next (after (words_of l) s) (rest_lines script at l ls e))

  pub skips_to : (at : ℕ) (s : State) → Skips at s (words_from script at) (next_table script at s)
  skips_to at s = skips (lines (drop at script)) at s refl

  -- ---- the next hand
  module _ (at : ℕ) (s : State) where
    abbrev p : Place
    p = next_table script at s

    -- none is left where no `t` is accepted any more
    pub no-hand : length script ≤ p.at → hands_of s (words_from script at) ≡ []
    unfolding hands_of
    no-hand h = (skips_to at s).hands ∙ ap (λ (x : List (List ℕ)). hands_of p.state (map words_of x)) (no_more script p.at h)

    pub opens-there : p.at < length script → opens (read_at script p.at).words p.state ≡ true
    opens-there h = ⊎_elim (λ n. absurd (omega arith)) (λ o. o.1) (skips_to at s).stops

    pub next-hand : p.at < length script → hands_of s (words_from script at) ≡ hand_at script p ∷ hands_of (closed_at script p).state (words_from script (closed_at script p).at)
    unfolding hands_of read_at
    next-hand h =
        let r = read_at script p.at in
        let q = skips_to r.next (after r.words p.state) in
        (skips_to at s).hands ∙ ap (λ (x : List (List ℕ)). hands_of p.state (map words_of x)) (lines_from script p.at h) ∙ rw (opens-there h)
        (λ i. record { key = p.state.key; lines = lines_at script p; ended = q.state i } ∷ q.hands i)

    -- it is closed behind the place where it was asked for
    pub hand-moves : p.at < length script → at < (closed_at script p).at
    hand-moves h =
        let r = read_at script p.at in
        omega (arith, (skips_to at s).up, next_place script p.at h, (skips_to r.next (after r.words p.state)).up)
