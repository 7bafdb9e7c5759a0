-- `layout::standing::stands_sound`: the one test and then the other; where a table stands there is room. Assumes nothing.
use mathlib.Core.Path.{sym, ap, ◌∙◌}
use mathlib.Core.Bool.{◌&&◌}
use lib.Dec.{leb}
use lib.ListN.{length}
use Rattle.commons.proofs.Bools.{and_both}
use Rattle.table.specs.Sound.{sound_frame}
use Rattle.layout.specs.Places.{FLOATS, NUMBERS}
use Rattle.layout.specs.Standing.{room_for, words_fit, sound_in, frame_at}
use Rattle.layout.proofs.standing.stands_sound.Goals as goal

pub returns-then-stands : goal.returns-then-stands
unfolding sound_in
returns-then-stands c =
    let start = c.args in
    let ns = start.numbers.now in
    let there = sym c.stands.ensures ∙ c.if-stands.true in
    let both = and_both (room_for start.floats (length ns)) (words_fit ns) there in
    let room = (and_both (leb FLOATS start.floats) (leb NUMBERS (length ns)) both.0).1 in
    c.is_sound.ensures ∙ ap sound_frame c.frame_at-frame.ensures ∙ λ i. sym there i && (sym room i && sound_frame (frame_at ns))

pub returns : goal.returns
returns c = simp (sym c.stands.ensures ∙ c.if-stands.false)
