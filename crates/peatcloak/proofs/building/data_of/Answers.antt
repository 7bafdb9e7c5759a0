-- `peatcloak::building::data_of`: by whether it is given. Assumes nothing.
use mathlib.Core.Path.{ap, ◌∙◌}
use Rattle.std.specs.Result.{result_ok}
use Rattle.peatcloak.proofs.building.data_of.Goals as goal

pub returns-then-given : goal.returns-then-given
returns-then-given c = c.ok.ensures.value ∙ ap result_ok c.read_data.ensures ∙ rw c.if-given.true

pub returns : goal.returns
returns c = rw c.if-given.false
