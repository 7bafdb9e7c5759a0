-- `console::play::play_script`: by the length of the script. Assumes nothing.
use Rattle.console.proofs.LawsLong.{part-short, part-long}
use Rattle.console.proofs.play.play_script.Goals as goal

pub returns-then-n-gt65536 : goal.returns-then-n-gt65536
returns-then-n-gt65536 c =
    record { value = rw (part-long _ _ _ _ c.if-n-gt65536.true) (c.refuse.ensures.value); out_after = rw (part-long _ _ _ _ c.if-n-gt65536.true) (c.refuse.ensures.out_after) }

pub returns : goal.returns
returns c =
    record { value = rw (part-short _ _ _ _ c.if-n-gt65536.false) (c.play_some.ensures.value); out_after = rw (part-short _ _ _ _ c.if-n-gt65536.false) (c.play_some.ensures.out_after) }
