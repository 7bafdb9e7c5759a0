-- `rounds::is_sound`: the last test is what is_below ensures. Assumes nothing.
use Rattle.rounds.specs.Sound.{sound_parts}
use Rattle.rounds.proofs.is_sound.Goals as goal

pub returns : goal.returns
unfolding sound_parts
returns c = rw c.is_below.ensures
