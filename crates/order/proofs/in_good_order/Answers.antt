-- `order::in_good_order`: a sound record has at most 16 seats, and each test of the list is what its callee ensures. Assumes nothing.
use Prim.Native.Nat.{ℕ, ◌+◌, min}
use native.Mathlib.Omega.{arith}
use mathlib.Core.Path.{◌≡◌, sym, ap, ◌∙◌}
use mathlib.Core.Bool.{◌&&◌}
use lib.Dec.{leb, eqb}
use Rattle.amounts.specs.Amounts.{largest_of}
use Rattle.chips.specs.Whole.{most, chips_in}
use Rattle.chips.proofs.Whole.{chips-le}
use Rattle.chips.proofs.Lists.{sum-le}
use Rattle.table.proofs.Sound.{sound}
use Rattle.order.specs.GoodOrder.{in_good_order}
use Rattle.order.proofs.in_good_order.Goals as goal

pub returns-then-not-is_sound : goal.returns-then-not-is_sound
unfolding in_good_order
returns-then-not-is_sound c = let s = sym c.is_sound.ensures ∙ c.if-not-is_sound.true in rw s

pub tested-seat-requires : goal.tested-seat-requires
tested-seat-requires c =
    (sound c.args.table (sym c.is_sound.ensures ∙ c.if-not-is_sound.false)).most

pub overflow_add-books : goal.overflow_add-books
overflow_add-books c =
    let t = c.args.table in
    let few = (sound t (sym c.is_sound.ensures ∙ c.if-not-is_sound.false)).most in
    record { fits = omega (arith, c.sum_chips.ensures, sum-le t.stacks t.num_players, c.chips_in-pot.ensures, chips-le t.total_pot) }

pub returns : goal.returns
unfolding in_good_order
returns c =
    let t = c.args.table in
    let s = sym c.is_sound.ensures ∙ c.if-not-is_sound.false in
    let few = (sound t s).most in
    let all : min t.num_players 16 ≡ t.num_players = omega arith in
    let top = c.largest-top.ensures ∙ ap (λ (n : ℕ). largest_of n t.round_data.player_bet) all in
    let pot = c.chips_in-pot.ensures in
    let least = c.chips_in-least.ensures in
    let seat = c.tested-seat.ensures in
    rw s (λ k.
    c.all_whole-2.ensures k
    && (c.is_whole-3.ensures k
    && (c.all_whole-3.ensures k
    && (c.all_whole.ensures k
    && (c.is_whole.ensures k
    && (c.is_whole-2.ensures k
    && (leb (c.sum_chips.ensures k + pot k) most
    && (eqb (pot k) (c.sum_chips-2.ensures k)
    && (seat.covers k
    && (eqb (c.chips_in.ensures k) ((c.chips_in-2.ensures ∙ ap chips_in top) k)
    && (leb 1 (least k)
    && (leb (least k) most
    && (seat.holds k
    && (seat.plays k
    && c.has.ensures k))))))))))))))
