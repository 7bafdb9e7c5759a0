-- `layout::standing::is_sound`: what soundness looks at stands there. Assumes nothing.
use borrow.Author.Tests.{le-leb, lt-leb}
use Rattle.layout.specs.Standing.{sound_in}
use Rattle.layout.proofs.standing.is_sound.Goals as goal

pub returns-then-numbers-ge-NUMBERS : goal.returns-then-numbers-ge-NUMBERS
unfolding sound_in
returns-then-numbers-ge-NUMBERS c = simp (le-leb _ _ c.if-numbers-ge-NUMBERS.true, c.is_sound.ensures, c.frame_at.ensures)

pub returns : goal.returns
unfolding sound_in
returns c = simp (lt-leb _ _ c.if-numbers-ge-NUMBERS.false)
