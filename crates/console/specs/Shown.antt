-- R12.9, R12.10: what is shown of the table that stands, or that none does. Definitions only.
use Rattle.std.specs.Prelude.{ℕ, ◌^◌, cond, ◌&&◌, pos, nat_le, Float, Option, Some, None}
use Rattle.std.specs.Option.{option_map}
use Rattle.std.specs.Float.{binary32}
use Rattle.std.specs.Float.Ieee.{to_unsigned, of_int, eq}
use Rattle.rounds.specs.Order.{round_number}
use Rattle.table.specs.declared.GameState.{GameState}
use Rattle.script.specs.declared.print.Shown.{Shown}
use Rattle.console.specs.declared.act.State.{State}

-- the whole part of an amount
abbrev pub whole_part : Float → ℕ
whole_part x = to_unsigned 64 x

-- R12.10: an amount that equals its whole part, which is at most 2 ^ 24; -0.0 is 0
unfoldable pub amount_of : Float → Option ℕ
amount_of x = cond (nat_le (whole_part x) (2 ^ 24) && eq (of_int binary32 (pos (whole_part x))) x) (Some (whole_part x)) None

-- R12.9: the round, the seat to act, the pot and B
abbrev pub table_view : GameState → Shown
table_view t =
    record { round = round_number t.round; seat = t.round_data.to_act_idx; pot = amount_of t.total_pot; bet = amount_of t.round_data.bet }

unfoldable pub view_of : State → Option Shown
view_of s = option_map table_view s.table
