-- `journal::lines::is_spelt`: the words are those of the tape. Assumes nothing.
use mathlib.Core.Path.{refl}
use Rattle.std.proofs.Common.{rules}
use Rattle.journal.proofs.lines.is_spelt.Goals as goal

pub returns : goal.returns
returns c = c.are_lines.ensures c.args.tape.now refl (λ i w h k. search rules)
