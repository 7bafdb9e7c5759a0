-- `layers::awards`: what is paid out where the hand is payable, and nothing where it is not. Assumes nothing.
use mathlib.Core.Path.{sym, ◌∙◌}
use Rattle.layers.specs.Settlement.{awards_of}
use Rattle.layers.proofs.awards.Goals as goal

pub paid_out-requires : goal.paid_out-requires
paid_out-requires c = sym c.is_payable.ensures ∙ c.if-is_payable.true

pub returns : goal.returns
unfolding awards_of
returns c = rw (sym c.is_payable.ensures ∙ c.if-is_payable.false)
