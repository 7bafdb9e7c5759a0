-- `table::soundness::Frame::is_sound`: each test is what its callee ensures. Assumes nothing.
use Rattle.table.specs.Sound.{sound_frame}
use Rattle.table.proofs.soundness.Frame.is_sound.Goals as goal

pub returns : goal.returns
unfolding sound_frame
returns c =
    rw (c.is_below-4.ensures, c.is_below-3.ensures, c.is_below-2.ensures, c.is_below.ensures, c.is_good.ensures, c.board_ok.ensures)
