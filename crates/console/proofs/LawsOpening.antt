-- Laws of a `t` line: its amounts are laid one by one, sixteen are all of them, and so many stacks are a part of them. Assumes nothing.
use Rattle.std.proofs.Common.{◌≡◌, ℕ, ◌+◌, ◌-◌, ◌<◌, ◌≤◌, ◌≢◌, Bool, true, false, not, ◌&&◌, leb, List, length, get_or, set, take, drop, sym, refl, ap, ◌∙◌, arith, length-drop, length-take-le, get_or-drop, get_or-set_other, get_or-set_same, below_more, leb-true}
use Prim.Native.Char.{code}
use lib.ListN.{length-map, get_or-map}
use lib.Seq.{get_or-take}
use lib.Ieee.{Float}
use Rattle.std.proofs.lemmas.List.FromFn.{fill_by_all}
use Rattle.commons.proofs.Bools.{and_both}
use Rattle.refusals.specs.declared.Refusal.TheVariants.{Build, Added}
use Rattle.refusals.specs.declared.GameStateBuilderError.TheVariants.{InvalidPlayerCount}
use Rattle.refusals.specs.declared.AddedError.TheVariants.{BadLine}
use Rattle.refusals.specs.Rows.{give_if, judge, answer, verdict_number}
use Rattle.refusals.proofs.Rows.{answer-number}
use Rattle.keys.specs.declared.HandKey.{HandKey}
use Rattle.builder.specs.declared.BuildStep.{BuildStep}
use Rattle.builder.specs.Build.{build_rows, built_step, not_built, build_of}
use Rattle.script.specs.declared.line.Words.{Words}
use Rattle.script.specs.declared.line.Line.TheVariants.{Table}
use Rattle.script.specs.Line.{only_if, asked}
use Rattle.console.specs.declared.act.State.{State}
use Rattle.console.specs.Act.{act_number, done, act_of}
use Rattle.console.specs.Opening.{chips_of, amounts_from, told, open_rows, table_rows, opening_of}

module _ (ns : List ℕ) where
  amounts-long : length ns ≡ 20 → length (amounts_from ns) ≡ 16
  unfolding amounts_from
  amounts-long h = length-map (drop 4 ns) chips_of ∙ length-drop 4 ns ∙ omega arith

  pub amount-at : (i : ℕ) → get_or (amounts_from ns) i (chips_of 0) ≡ chips_of (get_or ns (4 + i) 0)
  unfolding amounts_from
  amount-at i = get_or-map chips_of (drop 4 ns) i 0 ∙ ap chips_of (get_or-drop 4 ns i 0)

  -- the amounts are laid from the front, each by its number
  abbrev pub Laid : List Float → ℕ → Type 0
  Laid out i = (k : ℕ) → k < i → get_or out k (chips_of 0) ≡ chips_of (get_or ns (4 + k) 0)

  pub one_more : (out : List Float) (i : ℕ) → i < 16 → length out ≡ 16 → Laid out i → Laid (set out i (chips_of (get_or (take 16 (drop 4 ns)) i 0))) (i + 1)
  one_more out i h f p =
      let here : get_or (take 16 (drop 4 ns)) i 0 ≡ get_or ns (4 + i) 0 = get_or-take 16 (drop 4 ns) i 0 h ∙ get_or-drop 4 ns i 0 in
      below_more _ _ (λ k b. let ne : k ≢ i = omega arith in rw get_or-set_other (p k b)) (let lt : i < length out = omega arith in rw (get_or-set_same, here))

  pub amounts-all : (out : List Float) → length ns ≡ 20 → length out ≡ 16 → Laid out 16 → out ≡ amounts_from ns
  amounts-all out e f p =
      let amount : ℕ → Float = λ (k : ℕ). chips_of (get_or ns (4 + k) 0) in
      fill_by_all amount out 16 (chips_of 0) f p ∙ sym (fill_by_all amount (amounts_from ns) 16 (chips_of 0) (amounts-long e) (λ k b. amount-at k))

  -- of these amounts, those of a line of so many numbers
  module _ (count : ℕ) (l : List Float) (h : count ≤ 20) (e : length ns ≡ 20) (is : l ≡ amounts_from ns) where
    pub stacks-fit : count - 4 ≤ length l
    stacks-fit = omega (arith, ap length is, amounts-long e)

    pub stacks-counted : count - 4 ≡ length (take (count - 4) l)
    stacks-counted = sym (length-take-le (count - 4) l stacks-fit)

-- a count of numbers that leaves 2 to 16 stacks
pub counted : (count : ℕ) → (leb 6 count && leb count 20) ≡ true → (6 ≤ count) × (count ≤ 20)
counted count e = let b = and_both (leb 6 count) (leb count 20) e in (leb-true _ _ b.0, leb-true _ _ b.1)

-- ---- the rows of a `t` line
module _ (key : HandKey) (count : ℕ) (ns : List ℕ) where
  -- of 2 to 16 stacks it is the builder's
  pub opens : (leb (4 + 2) count && leb count (4 + 16)) ≡ true → build_of (told key count ns) ≡ opening_of key count ns
  unfolding opening_of build_of
  opens e = λ i. answer (built_step (told key count ns)) not_built (give_if (not (sym e i)) (Build InvalidPlayerCount) (judge (build_rows (told key count ns))))

  -- of others it is 3
  pub opens_not : (leb (4 + 2) count && leb count (4 + 16)) ≡ false → not_built (Build InvalidPlayerCount) ≡ opening_of key count ns
  unfolding opening_of
  opens_not e = λ i. answer (built_step (told key count ns)) not_built (give_if (not (sym e i)) (Build InvalidPlayerCount) (judge (build_rows (told key count ns))))

  -- its number is that of the first row that holds, 25 with fewer than four numbers
  pub opening_order : verdict_number (opening_of key count ns).answer ≡ verdict_number (judge (open_rows key count ns))
  unfolding opening_of
  opening_order = answer-number (built_step (told key count ns)) not_built (λ (s : BuildStep). verdict_number s.answer) refl (λ r. refl) (judge (open_rows key count ns))

pub table_order : (w : Words) (s : State) → w.letter ≡ code "t" → act_number (act_of w s) ≡ verdict_number (judge (table_rows s.key w.count w.numbers))
unfolding act_of asked
table_order w s e = (λ i. act_number (done s w (asked (e i) w.count (get_or w.numbers 0 0)))) ∙ by_count (leb 4 w.count)
  where
    by_count : (b : Bool) → act_number (done s w (only_if b Table)) ≡ verdict_number (give_if (not b) (Added BadLine) (judge (open_rows s.key w.count w.numbers)))
    by_count true = opening_order s.key w.count w.numbers
    by_count false = refl
