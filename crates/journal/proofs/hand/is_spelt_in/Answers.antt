-- `journal::hand::is_spelt_in`: the words are the entries of the blocks. Assumes nothing.
use mathlib.Core.Path.{◌≡◌, sym, ◌∙◌}
use Rattle.std.proofs.Common.{rules}
use Rattle.journal.specs.Hand.{word_in, words_from}
use Rattle.journal.proofs.LawsHand.{words_long, words-at}
use Rattle.journal.proofs.hand.is_spelt_in.Goals as goal

pub returns : goal.returns
returns c =
    c.are_lines.ensures (words_from c.args.bytes.now 0 c.args.total) (words_long c.args.bytes.now c.args.total 0) (λ i w h k.
    let is : w ≡ word_in c.args.bytes.now i = search rules in
    is ∙ sym (words-at c.args.bytes.now c.args.total i h))
