-- `recorder::replaying::replay_hand`: by what the reader gives of the bytes. Assumes nothing.
use mathlib.Core.Path.{sym, ◌∙◌}
use Rattle.recorder.proofs.LawsPlaying.{not-read, was_read}
use Rattle.recorder.proofs.replaying.replay_hand.Goals as goal

pub play_lines-requires : goal.play_lines-requires
play_lines-requires c = sym c.read_hand.ensures ∙ c.in-Ok.is

pub returns-in-Err : goal.returns-in-Err
returns-in-Err c =
    rw c.into.ensures (not-read c.args.bytes.now (sym c.read_hand.ensures ∙ c.in-Err.is) c.fresh_with.ensures)

pub returns-in-Ok : goal.returns-in-Ok
returns-in-Ok c =
    was_read c.args.bytes.now (sym c.read_hand.ensures ∙ c.in-Ok.is) c.play_lines.ensures
