-- `console::ending::end_of`: what is left to play leads to the script's end, and 512 bytes have room for a line, so that the place goes up with each part.
-- Assumes nothing.
use Rattle.std.proofs.Common.{sym, ap, ◌∙◌, arith}
use Rattle.console.specs.declared.play.Console.{Console}
use Rattle.console.specs.declared.play.Played.{Played}
use Rattle.console.proofs.LawsEnding.{leads_to, starts, no_more, part_leads}
use Rattle.console.proofs.LawsWhole.{script-moves}
use Rattle.console.proofs.ending.end_of.Goals as goal

pub loop-at-init : goal.loop-at-init
loop-at-init c = let s = c.args.script.now in ap (λ (x : Console). leads_to s 0 x.state) c.start-c.ensures ∙ starts s

pub loop-at-smaller : goal.loop-at-smaller
loop-at-smaller c =
    let moves = script-moves c.args.script.now c.loop-at.at c.loop-at.c 512 c.loop-at-test.true (omega arith) in
    rw c.play_part-p.ensures (omega (arith, moves, c.loop-at-test.true))

pub loop-at-preserved : goal.loop-at-preserved
loop-at-preserved c =
    let s = c.args.script.now in
    ap (λ (p : Played). leads_to s p.at p.console.state) c.play_part-p.ensures ∙ part_leads s c.loop-at.at c.loop-at.c 512 ∙ c.loop-at.invariant

pub returns : goal.returns
returns c =
    sym (no_more c.args.script.now c.loop-at.at c.loop-at.c.state c.loop-at-test.false) ∙ c.loop-at.invariant
