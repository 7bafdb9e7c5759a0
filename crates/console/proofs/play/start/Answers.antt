-- `console::play::start`: as the definition says. Assumes nothing.
use Rattle.std.proofs.Common.{refl}
use Rattle.console.specs.Play.{at_start}
use Rattle.console.proofs.play.start.Goals as goal

pub returns : goal.returns
unfolding at_start
returns c = refl
