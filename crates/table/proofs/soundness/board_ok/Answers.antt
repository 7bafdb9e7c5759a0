-- `table::soundness::board_ok`: a board that is too long has no such cards, and of another each card is tested. Assumes nothing.
use Rattle.std.proofs.Common.{rules}
use Prim.Native.Nat.{◌-◌, ◌≤◌}
use mathlib.Core.Path.{◌≡◌, sym, ap, ◌∙◌}
use native.Mathlib.Omega.{arith}
use borrow.Author.Tests.{tests, lt-leb}
use lib.Dec.{ltb}
use lib.ListN.{take}
use Rattle.std.specs.List.{list_all}
use Rattle.std.proofs.lemmas.Iterator.{YieldsList-from_slice}
use Rattle.std.proofs.lemmas.Iterator.Search.{all_from_yields_List}
use Rattle.commons.proofs.Slices.{front, all-places}
use Rattle.table.specs.Sound.{board_ok}
use Rattle.table.proofs.Sound.{few-cards, cards-each}
use Rattle.table.proofs.soundness.board_ok.Goals as goal

pub returns-in-Some : goal.returns-in-Some
returns-in-Some c =
    let a = c.args in
    let w = c.in-Some.ensures.lookup.0 in
    let whole : a.len - 0 ≡ a.len = omega arith in
    let least : a.len ≤ 5 = omega (arith, w.1, c.well_formed) in
    all_from_yields_List {all = c.in-Some.cards.now} (λ x. ltb x 52) _ _ _ c.all.ensures.ran (YieldsList-from_slice _ cc) (λ x b q k. search (rules, tests))
    ∙ ap (list_all (λ x. ltb x 52)) w.2
    ∙ (λ i. list_all (λ x. ltb x 52) (take (whole i) a.board))
    ∙ all-places (front 0 a.board a.len (omega (arith, w.1))) (λ x. ltb x 52)
    ∙ sym (few-cards a.len a.board least ∙ cards-each a.len a.board)

pub returns-in-None : goal.returns-in-None
unfolding board_ok
returns-in-None c = simp (lt-leb c.args.len 5 (omega (arith, c.in-None.ensures.lookup.0, c.well_formed)))
