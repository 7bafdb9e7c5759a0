-- `order::seatwise::tested`: each test goes over the seats below n. Assumes nothing.
use Rattle.std.proofs.Common.{rules, ℕ, ◌∙◌, arith, not, ◌||◌}
use borrow.Author.Tests.{tests}
use lib.Dec.{leb}
use lib.Ieee.{Float, nan}
use Rattle.std.proofs.lemmas.Iterator.{YieldsList-from_slice, YieldsList-from_zip, YieldsList-from_range}
use Rattle.std.proofs.lemmas.Iterator.Consumers.{YieldsList-from_enumerate, YieldsList-at}
use Rattle.std.proofs.lemmas.Iterator.Search.{all_from_yields_List}
use Rattle.seats.specs.Bits.{has}
use Rattle.commons.proofs.Slices.{front, zipped, counted, ranged, all-places}
use Rattle.chips.specs.Whole.{chips_in}
use Rattle.order.proofs.seatwise.tested.Goals as goal

pub returns : goal.returns
returns c =
    let a = c.args in
    let covers = λ (p : Float × Float). leb (chips_in p.0) (chips_in p.1) in
    let holds = λ (p : ℕ × Float). not (has a.active p.0) || leb 1 (chips_in p.1) in
    let plays = λ (i : ℕ). not (has a.owing i) || has a.active i in
    record {
      covers =
          all_from_yields_List covers c.all.new.self _ _ c.all.ensures.ran
          (YieldsList-from_zip (YieldsList-from_slice _ cc) (YieldsList-from_slice _ cc)) (λ x b q k. search (rules, tests))
          ∙ all-places (zipped (front nan a.round a.n (omega arith)) (front nan a.hand a.n (omega arith))) covers;
      holds =
          all_from_yields_List holds _ _ _ c.all-2.ensures.ran
          (YieldsList-from_enumerate (YieldsList-at c.enumerate.ensures.source (YieldsList-from_slice _ cc)) c.enumerate.ensures.count) (λ x b q k. search (rules, tests))
          ∙ all-places (counted (front nan a.stacks a.n (omega arith))) holds;
      plays =
          all_from_yields_List plays _ _ _ c.all-3.ensures.ran (YieldsList-from_range 0 a.n a.n (cc) (omega arith)) (λ x b q k. search (rules, tests))
          ∙ all-places (ranged a.n) plays;
    }
