-- `journal::words::is_zero`: the test of each place. Assumes nothing.
use Prim.Native.Nat.{◌+◌, ◌-◌}
use mathlib.Core.Path.{◌∙◌}
use lib.Dec.{eqb}
use lib.ListN.{take, drop}
use Rattle.std.proofs.Common.{rules, tests}
use Rattle.std.proofs.lemmas.Iterator.{YieldsList-from_slice}
use Rattle.std.proofs.lemmas.Iterator.Search.{all_from_yields_List}
use Rattle.journal.specs.Block.{zero_at}
use Rattle.journal.proofs.LawsLists.{all_part}
use Rattle.journal.proofs.words.is_zero.Goals as goal

pub returns : goal.returns
unfolding zero_at
returns c =
    all_from_yields_List (λ x. eqb x 0) _ _ _ c.all.ensures.ran (YieldsList-from_slice (take (c.args.at + c.args.n - c.args.at) (drop c.args.at c.args.b.now)) cc) (λ x b q k. search (rules, tests))
    ∙ all_part (λ x. eqb x 0) c.args.b.now c.args.at c.args.n c.requires
