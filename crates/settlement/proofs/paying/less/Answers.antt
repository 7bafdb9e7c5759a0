-- `settlement::paying::less`: of two amounts of at most 8,000 the difference fits. Assumes nothing.
use Rattle.settlement.proofs.Signed.{less_asked, less-is}
use Rattle.settlement.proofs.paying.less.Goals as goal

pub overflow_sub-result : goal.overflow_sub-result
overflow_sub-result c = less_asked c.requires.a_bound c.requires.b_bound

pub returns : goal.returns
returns c = less-is c.requires.a_bound c.requires.b_bound
