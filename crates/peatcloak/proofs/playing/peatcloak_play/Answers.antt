-- `peatcloak::playing::peatcloak_play`: the console's, from its start. Assumes nothing.
use Rattle.peatcloak.proofs.LawsPlayed.{from_start}
use Rattle.peatcloak.proofs.playing.peatcloak_play.Goals as goal

pub returns : goal.returns
returns c = let t' = from_start _ c.args.out.now _ _ _ c.start.ensures c.play_script-p.ensures.value c.play_script-p.ensures.out_after in record { value = t'.0; out_after = t'.1 }
