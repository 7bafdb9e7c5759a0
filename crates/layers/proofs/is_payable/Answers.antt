-- `layers::is_payable`: the tests are the definition's; what is put in up to 8,001 shows whether the pot passes 8,000. Assumes nothing.
use borrow.Author.Tests.{le-leb, lt-leb}
use Rattle.layers.specs.Settlement.{is_payable}
use Rattle.layers.proofs.Holding.{pot-limit}
use Rattle.layers.proofs.is_payable.Goals as goal

pub returns-then-h-le16 : goal.returns-then-h-le16
unfolding is_payable
returns-then-h-le16 c =
    rw (le-leb _ _ c.if-h-le16.true, c.contested-someone.ensures, c.put_in-chips.ensures, c.new-seated.ensures, pot-limit c.args.h 8000)

pub returns : goal.returns
unfolding is_payable
returns c = rw (lt-leb _ _ c.if-h-le16.false)
