-- Section 11 in whole chips: levels, layers, who wins them, what each seat is awarded. Definitions only.
use Rattle.std.specs.Prelude.{ℕ, suc, ◌-◌, min, Bool, cond, ◌&&◌, ◌||◌, List, [], ◌∷◌, leb, ltb, eqb, get_or, replicate}
use Rattle.std.specs.Int.Bits.{bit_or}
use Rattle.commons.specs.Tests.{all_of}
use Rattle.seats.specs.Bits.{has, seats_where}
use Rattle.commons.specs.Filled.{filled}
use Rattle.commons.specs.Folds.{sum_to, most_to, any_to}
use Rattle.layers.specs.Sharing.{share_of}
use Rattle.layers.specs.declared.Hand.{Hand}

abbrev pub bet : Hand → ℕ → ℕ
bet h i = get_or h.bets i 0

abbrev pub rank : Hand → ℕ → ℕ
rank h i = get_or h.ranks i 0

-- R11.5: a contender, active or all in or both
unfoldable pub contends : Hand → ℕ → Bool
contends h i = ltb i h.n && has (bit_or h.active h.all_in) i

-- R11.6: a level, a hand bet above 0 of some contender
unfoldable pub is_level : Hand → ℕ → Bool
is_level h u = ltb 0 u && any_to h.n (λ i. contends h i && eqb (bet h i) u)

-- R11.6: the top level, and the level below u; 0 where there is none
unfoldable pub top : Hand → ℕ
top h = most_to h.n (contends h) (bet h)

unfoldable pub level_below : Hand → ℕ → ℕ
level_below h u = most_to h.n (λ i. contends h i && ltb (bet h i) u) (bet h)

-- R11.7: a layer goes by its upper level; where there is no level, one goes by 0
unfoldable pub is_layer : Hand → ℕ → Bool
is_layer h u = is_level h u || (eqb u 0 && eqb (top h) 0)

-- R11.7: the hand bets of all seats together, whoever folded; and their parts up to u
unfoldable pub pot_of : Hand → ℕ
pot_of h = sum_to h.n (bet h)

unfoldable pub put_in : Hand → ℕ → ℕ
put_in h u = sum_to h.n (λ i. min (bet h i) u)

-- R11.7: what a layer holds: the parts up to u less those up to the level below; at the top all that is left
unfoldable pub holds : Hand → ℕ → ℕ
holds h u = cond (eqb u (top h)) (pot_of h) (put_in h u) - put_in h (level_below h u)

-- R11.8: who plays for it
unfoldable pub reached : Hand → ℕ → ℕ → Bool
reached h u i = contends h i && leb u (bet h i)

-- R11.8: the best rank among them, and who has it
unfoldable pub best : Hand → ℕ → ℕ
best h u = most_to h.n (reached h u) (rank h)

unfoldable pub wins : Hand → ℕ → ℕ → Bool
wins h u i = reached h u i && eqb (rank h i) (best h u)

abbrev pub winners : Hand → ℕ → ℕ
winners h u = seats_where h.n (wins h u)

-- R11.9, R11.10: what seat i gets of the layer under u, and of all layers
unfoldable pub share : Hand → ℕ → ℕ → ℕ
share h u i = share_of h.n h.first (winners h u) (holds h u) i

unfoldable pub award : Hand → ℕ → ℕ
award h i = sum_to (suc (top h)) (λ u. cond (is_layer h u) (share h u i) 0)

-- R11.10: a hand that can be paid out: at most 16 seats, the seat `first` among them, at most 8,000 chips, and a contender
abbrev pub payable_tests : Hand → List Bool
payable_tests h = leb h.n 16 ∷ ltb h.first h.n ∷ leb (pot_of h) 8000 ∷ any_to h.n (contends h) ∷ []

unfoldable pub is_payable : Hand → Bool
is_payable h = all_of (payable_tests h)

-- R11.10: the awards of all 16 places: nothing where the hand cannot be paid out
abbrev pub nothing : List ℕ
nothing = replicate 16 0

unfoldable pub awards_of : Hand → List ℕ
awards_of h = cond (is_payable h) (filled 16 nothing (award h)) nothing

abbrev pub awarded : Hand → ℕ → ℕ
awarded h i = get_or (awards_of h) i 0
