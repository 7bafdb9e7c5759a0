-- What stands at the end of a script is what its lines lead to, one after another; played part by part, in buffers of any size, it leads to the same.
-- Assumes nothing.
use Rattle.std.proofs.Common.{◌≡◌, ℕ, ◌+◌, ◌-◌, ◌≤◌, Bool, true, false, cond, ◌||◌, ltb, leb, List, [], ◌∷◌, length, drop, sym, refl, ap, ⊎_elim, drop_of_length-le, leb-false, leb-true}
use Rattle.commons.proofs.Bools.{either}
use Rattle.script.specs.Split.{lines}
use Rattle.script.specs.Words.{words_of}
use Rattle.console.specs.declared.act.State.{State}
use Rattle.console.specs.declared.play.Console.{Console}
use Rattle.console.specs.Ending.{state_after, end_of}
use Rattle.console.specs.Play.{at_start, said, after, too_long_line}
use Rattle.console.specs.Parts.{Part, part_is, ahead, part_of, refused_part, script_part}
use Rattle.console.proofs.LawsLong.{part-short, part-long}
use Rattle.console.proofs.LawsWhole.{rest_lines}

-- ---- from a place on, where something stands; a script that is too long leads nowhere
abbrev pub leads_to : List ℕ → ℕ → State → State
leads_to s at st = cond (leb (length s) 65536) (state_after st (lines (drop at s))) st

pub starts : (s : List ℕ) → leads_to s 0 at_start.state ≡ end_of s
unfolding end_of
starts s = refl

pub no_more : (s : List ℕ) (at : ℕ) (st : State) → length s ≤ at → leads_to s at st ≡ st
unfolding state_after lines
no_more s at st h = rw (drop_of_length-le s h) (same (leb (length s) 65536))
  where
    same : (b : Bool) → cond b st st ≡ st
    same true = refl
    same false = refl

-- ---- a part leads to the same end as all of it
plays-on : (s : List ℕ) (ls : List (List ℕ)) (at : ℕ) (c : Console) (room : ℕ) → ls ≡ lines (drop at s)
    → state_after (part_of room at c ls).console.state (lines (drop (part_of room at c ls).at s)) ≡ state_after c.state ls
unfolding state_after part_of after
plays-on s [] at c room e = ap (state_after c.state) (sym e)
plays-on s (l ∷ ls) at c room e =
    let t : List ℕ = said c (words_of l) in
    let p : Part = part_of (room - length t) (at + length l + 1) (after c (words_of l)) ls in
    elim (ltb room 72) as
    (λ b. state_after (cond b (part_is [] at c) (ahead t p)).console.state (lines (drop (cond b (part_is [] at c) (ahead t p)).at s)) ≡ state_after c.state (l ∷ ls)) [
      | true ↦ ap (state_after c.state) (sym e)
      | false ↦ plays-on s ls (at + length l + 1) (after c (words_of l)) (room - length t) (rest_lines s at l ls e)
    ]

-- the one line of a script that is too long moves nothing
refused-stays : (n at : ℕ) (c : Console) (room : ℕ) → (refused_part n at c room).console ≡ c
unfolding refused_part
refused-stays n at c room = by (leb n at || ltb room 72)
  where
    by : (b : Bool) → (cond b (part_is [] at c) (part_is too_long_line n c)).console ≡ c
    by true = refl
    by false = refl

pub part_leads : (s : List ℕ) (at : ℕ) (c : Console) (room : ℕ) → leads_to s (script_part s at c room).at (script_part s at c room).console.state ≡ leads_to s at c.state
part_leads s at c room =
    ⊎_elim (λ t. rw (part-short s at c room (leb-true _ _ t), t) (plays-on s (lines (drop at s)) at c room refl))
    (λ f. rw (part-long s at c room (leb-false _ _ f), f) (ap (λ (x : Console). x.state) (refused-stays (length s) at c room))) (either (leb (length s) 65536))
