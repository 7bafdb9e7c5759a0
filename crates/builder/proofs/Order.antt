-- Rows one after another: what the first rows refuse is refused, and where they refuse nothing the later ones answer. Assumes nothing.
use Prim.Native.Nat.{min}
use mathlib.Core.Path.{◌≡◌, ◌∙◌}
use mathlib.Core.Bool.{Bool, not}
use mathlib.Core.List.{List, [], ◌∷◌, ◌++◌}
use Rattle.std.specs.Prelude.{Err}
use Rattle.refusals.specs.Rows.{Row, row, Verdict, judge, answer}
use Rattle.refusals.specs.declared.Refusal.TheVariants.{Added}
use Rattle.refusals.specs.declared.AddedError.TheVariants.{BadRecord}
use Rattle.refusals.proofs.Rows.{judge-joined, then_answer}
use Rattle.builder.specs.declared.GameStateBuilder.{GameStateBuilder}
use Rattle.builder.specs.Build.{board_told, board_len_of, told_rows, amount_rows, list_rows, rows_for}
use Rattle.builder.specs.Cards.{card_rows}

-- of two parts the first, where it refuses; else the second
abbrev pub first : Verdict → Verdict → Verdict
first v w = answer w Err v

pub judge-parts : (rs ss : List Row) → judge (rs ++ ss) ≡ first (judge rs) (judge ss)
judge-parts rs ss = judge-joined rs ss ∙ then_answer rs (judge ss)

pub four-rows : (p q r s : Row) (rs : List Row) → judge (p ∷ q ∷ r ∷ s ∷ rs) ≡ first (judge (p ∷ [])) (first (judge (q ∷ [])) (first (judge (r ∷ [])) (first (judge (s ∷ [])) (judge rs))))
four-rows p q r s rs =
    judge-parts (p ∷ []) (q ∷ r ∷ s ∷ rs)
    ∙ (λ i. first (judge (p ∷ [])) (judge-parts (q ∷ []) (r ∷ s ∷ rs) i))
    ∙ (λ i. first (judge (p ∷ [])) (first (judge (q ∷ [])) (judge-parts (r ∷ []) (s ∷ rs) i)))
    ∙ (λ i. first (judge (p ∷ [])) (first (judge (q ∷ [])) (first (judge (r ∷ [])) (judge-parts (s ∷ []) rs i))))

-- ---- the builder's rows
module _ (b : GameStateBuilder) (sound : Bool) where
  pub rows-parts : judge (rows_for b sound)
      ≡ first (judge (told_rows b)) (first (judge (amount_rows b)) (first (judge (list_rows b)) (first (judge (card_rows (min (board_len_of b) 5) 0 (board_told b).list)) (judge (row (not sound) (Added BadRecord) ∷ [])))))
  rows-parts =
      let last = row (not sound) (Added BadRecord) ∷ [] in
      let cards = card_rows (min (board_len_of b) 5) 0 (board_told b).list in
      judge-parts (told_rows b) (amount_rows b ++ (list_rows b ++ (cards ++ last)))
      ∙ (λ i. first (judge (told_rows b)) (judge-parts (amount_rows b) (list_rows b ++ (cards ++ last)) i))
      ∙ (λ i. first (judge (told_rows b)) (first (judge (amount_rows b)) (judge-parts (list_rows b) (cards ++ last) i)))
      ∙ (λ i. first (judge (told_rows b)) (first (judge (amount_rows b)) (first (judge (list_rows b)) (judge-parts cards last i))))
