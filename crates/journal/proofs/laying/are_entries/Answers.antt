-- `journal::laying::are_entries`: the test of each entry. Assumes nothing.
use mathlib.Core.Path.{◌∙◌}
use Rattle.std.proofs.Common.{rules, tests}
use Rattle.std.proofs.lemmas.Iterator.{YieldsList-from_slice}
use Rattle.std.proofs.lemmas.Iterator.Search.{all_from_yields_List}
use Rattle.journal.specs.Entry.{is_entry}
use Rattle.journal.specs.Lay.{all_entries}
use Rattle.journal.proofs.LawsLists.{all_whole}
use Rattle.journal.proofs.laying.are_entries.Goals as goal

pub returns : goal.returns
unfolding all_entries
returns c =
    all_from_yields_List is_entry _ _ _ c.all.ensures.ran (YieldsList-from_slice _ cc) (λ x b q k. search (rules, tests))
    ∙ all_whole is_entry c.args.entries.now
