-- R9.3: a player's choice, as the fold or the bet that it stands for. Definitions only.
use Rattle.std.specs.Prelude.{Result, Ok, Err, ℕ}
use Rattle.refusals.specs.declared.Refusal.{Refusal}
use Rattle.table.specs.declared.Paid.{Paid}
use Rattle.std.specs.Prelude.{false}
use Rattle.std.specs.Float.{inf}
use Rattle.floats.specs.Helpers.{zerof}
use Rattle.table.specs.declared.AgentAction.{AgentAction}
use Rattle.table.specs.declared.AgentAction.TheVariants.{Fold, Call, Bet, AllIn}
use Rattle.table.specs.declared.BetStep.{BetStep}
use Rattle.table.specs.declared.TableStep.{TableStep}
use Rattle.table.specs.declared.GameState.{GameState}
use Rattle.table.specs.Pay.{bet_of, fold_of}

-- a fold pays nothing
abbrev pub paying_nothing : Result ℕ Refusal → Result Paid Refusal
paying_nothing (Ok k) = Ok (record { amount = zerof; passed = k })
paying_nothing (Err r) = Err r

abbrev pub as_bet : TableStep → BetStep
as_bet s = record { answer = paying_nothing s.answer; table = s.table }

unfoldable pub choice_of : GameState → AgentAction → BetStep
choice_of t Fold = as_bet (fold_of t)
choice_of t Call = bet_of t t.round_data.bet false
choice_of t (Bet a) = bet_of t a false
choice_of t AllIn = bet_of t (inf false) false
