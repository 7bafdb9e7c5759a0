-- `script::print::push_view` meets its contract: four parts, one after the other. Their lengths are bounded here, where the round
-- and the seat are known to fit their types. Assumes nothing.
use native.Mathlib.Omega.{arith}
use lib.ListN.{length-append}
use Rattle.script.specs.Print.{view_text}
use Rattle.script.proofs.LawsPrint.{and_then, short, amount-short}
use Rattle.script.proofs.print.push_view.Goals as goal

pub returns-in-None : goal.returns-in-None
unfolding view_text
returns-in-None c =
    rw c.in-None.is
    (and_then (and_then (and_then c.push_dash.ensures c.push_dash-in-None.ensures) c.push_dash-in-None-2.ensures) c.push_dash-in-None-3.ensures, omega arith)

pub returns-in-Some : goal.returns-in-Some
unfolding view_text
returns-in-Some c =
    rw c.in-Some.is (
      and_then (and_then (and_then c.push_next.ensures c.push_next-u.ensures) c.push_amount.ensures) c.push_amount-in-Some.ensures,
      simp length-append (omega (
        arith,
        short 2 c.in-Some.s.round (omega arith),
        short 19 c.in-Some.s.seat (omega arith),
        amount-short c.in-Some.s.pot,
        amount-short c.in-Some.s.bet,
      )),
    )
