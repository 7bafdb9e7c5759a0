-- A script part by part: whatever the buffers are, all that is printed is what the script prints (`printed-whole`), and in buffers
-- of 72 places or more the parts come to the script's end (`script-moves`). Assumes nothing.
use Rattle.std.proofs.Common.{◌≡◌, ℕ, ◌+◌, ◌-◌, ◌<◌, ◌≤◌, true, false, cond, ◌||◌, ltb, leb, ◌⊎◌, List, [], ◌∷◌, ◌++◌, length, drop, sym, refl, ap, ◌∙◌, inl, inr, ⊎_elim, append_assoc, append-nil, arith, drop_of_length-le, ltb-false, ltb-true, le-ltb, le-leb, leb-false, leb-true}
use borrow.Author.Tests.{lt-leb}
use Rattle.commons.proofs.Bools.{either}
use Rattle.script.specs.Split.{lines}
use Rattle.script.specs.Words.{words_of}
use Rattle.script.specs.Read.{line_from, read_at}
use Rattle.script.proofs.LawsRead.{lines_from, next_place}
use Rattle.console.specs.declared.play.Console.{Console}
use Rattle.console.specs.Play.{at_start, said, after, play_lines, too_long_line, play_script}
use Rattle.console.specs.Parts.{Part, part_is, ahead, part_of, part_from, refused_part, script_part}
use Rattle.console.proofs.LawsParts.{words_at, plays}
use Rattle.console.proofs.LawsLong.{says_nothing, says-one, is-left, part-short, part-long}

-- what is printed from a place to the script's end
abbrev pub play_from : List ℕ → ℕ → Console → List ℕ
play_from s at c = play_lines c (lines (drop at s))

no_lines : (s : List ℕ) (at : ℕ) → length s ≤ at → lines (drop at s) ≡ []
unfolding lines
no_lines s at h = rw (drop_of_length-le s h)

none_left : (s : List ℕ) (at : ℕ) (c : Console) → length s ≤ at → play_from s at c ≡ []
unfolding play_lines
none_left s at c h = rw (no_lines s at h)

-- the lines from a place on, the first of them l: the others are those from its end on
pub rest_lines : (s : List ℕ) (at : ℕ) (l : List ℕ) (ls : List (List ℕ)) → l ∷ ls ≡ lines (drop at s) → ls ≡ lines (drop (at + length l + 1) s)
rest_lines s at l ls e = go (either (ltb at (length s)))
  where
    go : (ltb at (length s) ≡ true) ⊎ (ltb at (length s) ≡ false) → ls ≡ lines (drop (at + length l + 1) s)
    go (inl t) =
        let h : at < length s = ltb-true _ _ t in
        let f : l ∷ ls ≡ line_from s at ∷ lines (drop (read_at s at).next s) = e ∙ lines_from s at h in
        let i : l ≡ line_from s at = cc in
        let j : ls ≡ lines (drop (read_at s at).next s) = cc in
        j ∙ rw (next_place s at h, i)
    go (inr f) =
        let n : lines (drop at s) ≡ [] = no_lines s at (ltb-false _ _ f) in
        let z : ◌≡◌ {A = ℕ} 0 1 = cc in
        absurd (omega arith)

-- a part, and what is printed from where it ends, are what is printed
split-part : (s : List ℕ) (ls : List (List ℕ)) (at : ℕ) (c : Console) (room : ℕ) → ls ≡ lines (drop at s)
    → play_lines c ls ≡ (part_of room at c ls).bytes ++ play_from s (part_of room at c ls).at (part_of room at c ls).console
unfolding play_lines part_of
split-part s [] at c room e = ap (play_lines c) e
split-part s (l ∷ ls) at c room e =
    let t : List ℕ = said c (words_of l) in
    let p : Part = part_of (room - length t) (at + length l + 1) (after c (words_of l)) ls in
    elim (ltb room 72) as
    (λ b. play_lines c (l ∷ ls)
    ≡ (cond b (part_is [] at c) (ahead t p)).bytes ++ play_from s (cond b (part_is [] at c) (ahead t p)).at (cond b (part_is [] at c) (ahead t p)).console) [
      | true ↦ ap (play_lines c) e
      | false ↦ ap (λ (x : List ℕ). t ++ x) (split-part s ls (at + length l + 1) (after c (words_of l)) (room - length t) (rest_lines s at l ls e))
          ∙ sym (append_assoc t p.bytes (play_from s p.at p.console))
    ]

part-whole : (s : List ℕ) (at : ℕ) (c : Console) (room : ℕ) → play_from s at c ≡ (part_from s at c room).bytes ++ play_from s (part_from s at c room).at (part_from s at c room).console
part-whole s at c room = split-part s (lines (drop at s)) at c room refl

-- a part never goes back, and where a line is left and there is room for one it goes on
goes : (ls : List (List ℕ)) (at : ℕ) (c : Console) (room : ℕ) → at ≤ (part_of room at c ls).at
unfolding part_of
goes [] at c room = omega arith
goes (l ∷ ls) at c room =
    let t : List ℕ = said c (words_of l) in
    let p : Part = part_of (room - length t) (at + length l + 1) (after c (words_of l)) ls in
    elim (ltb room 72) as (λ b. at ≤ (cond b (part_is [] at c) (ahead t p)).at) [
      | true ↦ omega arith
      | false ↦ omega (arith, goes ls (at + length l + 1) (after c (words_of l)) (room - length t))
    ]

part-moves : (s : List ℕ) (at : ℕ) (c : Console) (room : ℕ) → at < length s → 72 ≤ room → at < (part_from s at c room).at
part-moves s at c room h r =
    let w = words_at s at in
    rw (plays s at c room h r)
    (omega (arith, next_place s at h, goes (lines (drop (read_at s at).next s)) (read_at s at).next (after c w) (room - length (said c w))))

-- what is left of a script of n bytes that is too long
left_of : ℕ → ℕ → List ℕ
left_of n at = cond (leb n at) [] too_long_line

says : (n at : ℕ) (c : Console) (room : ℕ) → (refused_part n at c room).bytes ++ left_of n (refused_part n at c room).at ≡ left_of n at
unfolding left_of
says n at c room = go (either (leb n at || ltb room 72))
  where
    go : ((leb n at || ltb room 72) ≡ true) ⊎ ((leb n at || ltb room 72) ≡ false) → (refused_part n at c room).bytes ++ left_of n (refused_part n at c room).at ≡ left_of n at
    go (inl t) = rw (says_nothing n at c room t) refl
    go (inr f) = rw (says-one n at c room f) (simp (le-leb n n (omega arith), lt-leb n at (is-left n at room f).0, append-nil))

pub script-moves : (s : List ℕ) (at : ℕ) (c : Console) (room : ℕ) → at < length s → 72 ≤ room → at < (script_part s at c room).at
script-moves s at c room h r =
    ⊎_elim
    (λ t. rw (part-short s at c room (leb-true _ _ t)) (part-moves s at c room h r))
    (λ f. rw (part-long s at c room (leb-false _ _ f), long-moves) h)
    (either (leb (length s) 65536))
  where
    long-moves : refused_part (length s) at c room ≡ part_is too_long_line (length s) c
    long-moves = says-one (length s) at c room (simp (lt-leb (length s) at h, le-ltb room 72 r))

-- a run of parts, in any rooms, to the script's end
pub data Printed (s : List ℕ) : ℕ → Console → List ℕ → Type 0 where
  stops : {at : ℕ} {c : Console} → length s ≤ at → Printed s at c []
  part : {at : ℕ} {c : Console} {bs : List ℕ} (room : ℕ) → Printed s (script_part s at c room).at (script_part s at c room).console bs
      → Printed s at c ((script_part s at c room).bytes ++ bs)

short_run : (s : List ℕ) → length s ≤ 65536 → (at : ℕ) (c : Console) (bs : List ℕ) → Printed s at c bs → bs ≡ play_from s at c
short_run s h at c bs (stops e) = sym (none_left s at c e)
short_run s h at c bs (part {bs = bs'} room r) =
    let p : Part = script_part s at c room in
    ap (λ (x : List ℕ). p.bytes ++ x) (short_run s h p.at p.console bs' r) ∙ rw (part-short s at c room h) (sym (part-whole s at c room))

long_run : (s : List ℕ) → 65536 < length s → (at : ℕ) (c : Console) (bs : List ℕ) → Printed s at c bs → bs ≡ left_of (length s) at
unfolding left_of
long_run s h at c bs (stops e) = simp (le-leb (length s) at e)
long_run s h at c bs (part {bs = bs'} room r) =
    let p : Part = script_part s at c room in
    ap (λ (x : List ℕ). p.bytes ++ x) (long_run s h p.at p.console bs' r) ∙ rw (part-long s at c room h) (says (length s) at c room)

pub printed-whole : (s bs : List ℕ) → Printed s 0 at_start bs → bs ≡ play_script s
unfolding play_script left_of
printed-whole s bs p =
    ⊎_elim
    (λ t. short_run s (leb-true _ _ t) 0 at_start bs p ∙ rw t refl)
    (λ f. let h : 65536 < length s = leb-false _ _ f in
    long_run s h 0 at_start bs p ∙ rw (f, lt-leb (length s) 0 (omega arith)) refl)
    (either (leb (length s) 65536))
