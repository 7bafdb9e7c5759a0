-- `rounds::RoundData::num_players_need_action`: the count is what count ensures. Assumes nothing.
use Rattle.rounds.proofs.RoundData.num_players_need_action.Goals as goal

pub returns : goal.returns
returns c = c.count.ensures
