-- `script::print::push_number` meets its contract. It calls itself on n / 10, so the number is the measure. Assumes nothing.
use Rattle.script.proofs.LawsPrint.{and_then, one_digit, more-digits}
use Rattle.script.proofs.print.+push_number.Goals as goal

pub returns-then-n-lt10 : goal.returns-then-n-lt10
returns-then-n-lt10 t c = rw (one_digit _ c.if-n-lt10.true) c.push.ensures

pub returns : goal.returns
returns t c = rw (more-digits _ c.if-n-lt10.false c.ranges.n.fits) (and_then c.push_number-u.ensures c.push-2.ensures)
