-- R12.7: a table from the numbers of a `t` line and the key that stands, or why there is none. Definitions only.
use Rattle.std.specs.Prelude.{ℕ, ◌+◌, ◌-◌, not, ◌&&◌, List, ◌∷◌, map, take, drop, pos, nat_le, slice_index, Some, Float}
use Rattle.std.specs.Float.{binary32}
use Rattle.std.specs.Float.Ieee.{of_int}
use Rattle.refusals.specs.declared.Refusal.TheVariants.{Build, Added}
use Rattle.refusals.specs.declared.AddedError.TheVariants.{BadLine}
use Rattle.refusals.specs.declared.GameStateBuilderError.TheVariants.{InvalidPlayerCount}
use Rattle.refusals.specs.Rows.{Row, row, judge, answer}
use Rattle.keys.specs.declared.HandKey.{HandKey}
use Rattle.builder.specs.declared.GameStateBuilder.{GameStateBuilder}
use Rattle.builder.specs.declared.BuildStep.{BuildStep}
use Rattle.builder.specs.Build.{build_rows, built_step, not_built}
use Rattle.builder.specs.Setters.{the_amounts, nothing, with_stacks, with_big_blind, with_small_blind, with_ante, with_dealer, with_key}

-- R12.5: a number of the script as an amount
abbrev pub chips_of : ℕ → Float
chips_of x = of_int binary32 (pos x)

-- the numbers after the first four, as amounts
unfoldable pub amounts_from : List ℕ → List Float
amounts_from ns = map chips_of (drop 4 ns)

-- what the builder is told by the key and a line of so many numbers
abbrev pub told : HandKey → ℕ → List ℕ → GameStateBuilder
told key count ns =
    let dealer = with_dealer (with_key nothing key) (Some (slice_index ns 0)) in
    let big = with_big_blind dealer (Some (chips_of (slice_index ns 1))) in
    let small = with_small_blind big (Some (chips_of (slice_index ns 2))) in
    let ante = with_ante small (Some (chips_of (slice_index ns 3))) in
    with_stacks ante (the_amounts (take (count - 4) (amounts_from ns)))

-- ---- R12.7: the order of the refusals: 25, 3, and then the builder's
abbrev pub open_rows : HandKey → ℕ → List ℕ → List Row
open_rows key count ns = row (not (nat_le (4 + 2) count && nat_le count (4 + 16))) (Build InvalidPlayerCount) ∷ build_rows (told key count ns)

abbrev pub table_rows : HandKey → ℕ → List ℕ → List Row
table_rows key count ns = row (not (nat_le 4 count)) (Added BadLine) ∷ open_rows key count ns

-- a table from a line that has its four numbers
unfoldable pub opening_of : HandKey → ℕ → List ℕ → BuildStep
opening_of key count ns = answer (built_step (told key count ns)) not_built (judge (open_rows key count ns))
