-- `script::print::print` meets its contract: four parts after an empty text. Assumes nothing.
use Prim.Native.Nat.{◌≤◌}
use native.Mathlib.Omega.{arith}
use lib.ListN.{length, length-append}
use Rattle.script.specs.Print.{line_text}
use Rattle.script.specs.Text.{text_of}
use Rattle.script.proofs.LawsPrint.{and_then, alone, short}
use Rattle.script.proofs.print.print.Goals as goal

pub returns : goal.returns
unfolding line_text text_of
returns c =
    let args = c.args in
    let all = and_then (and_then (and_then c.push_number.ensures c.push_next-u.ensures) c.push_view.ensures.0) c.push.ensures in
    let fits : length (line_text args.no args.number args.view) ≤ 72 = simp length-append (omega (arith, short 19 args.no (omega arith), short 2 args.number (omega arith), c.push_view.ensures.1)) in
    record { text = alone all fits; fits = fits }
