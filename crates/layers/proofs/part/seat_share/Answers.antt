-- `layers::part::seat_share` meets its contract. Assumes nothing.
use native.Mathlib.Omega.{arith}
use mathlib.Core.Path.{◌∙◌}
use Rattle.layers.proofs.part.seat_share.Goals as goal

pub returns : goal.returns
returns c = (c.only.ensures.0 ∙ rw c.only-more.ensures.0, omega arith)
