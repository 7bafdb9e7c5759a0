-- R5.2, R5.3: the board's cards: numbers 0 to 51, up to five. Definitions only.
use Rattle.std.specs.Prelude.{ℕ, zero, suc, ◌+◌, min, Bool, false, ◌&&◌, ◌||◌, List, [], ◌∷◌, eqb, leb, get_or, replicate}
use Rattle.commons.specs.Filled.{filled}
use Rattle.refusals.specs.declared.Refusal.TheVariants.{Build, Added}
use Rattle.refusals.specs.declared.GameStateBuilderError.TheVariants.{DuplicateCard}
use Rattle.refusals.specs.declared.AddedError.TheVariants.{BadCard}
use Rattle.refusals.specs.Rows.{Row, row}

-- R5.2: the first n cards of a list, zeros after them
abbrev pub cards_to : ℕ → List ℕ → List ℕ
cards_to n l = filled (min n 5) (replicate 5 0) (λ i. get_or l i 0)

-- the card equals one of the first k
unfoldable pub seen_to : ℕ → ℕ → List ℕ → Bool
seen_to zero c l = false
seen_to (suc k) c l = seen_to k c l || eqb (get_or l k 0) c

-- R5.3: of the k cards from place i on: for each card 18, and then 13
unfoldable pub card_rows : ℕ → ℕ → List ℕ → List Row
card_rows zero i l = []
card_rows (suc k) i l = row (leb 52 (get_or l i 0)) (Added BadCard) ∷ row (seen_to i (get_or l i 0) l) (Build DuplicateCard) ∷ card_rows k (i + 1) l

-- R5.3: none, or 3 to 5 cards
abbrev pub board_size : ℕ → Bool
board_size n = eqb n 0 || (leb 3 n && leb n 5)
