-- `peatcloak::next_round::advance_at`: by the round. Assumes nothing.
use native.Mathlib.Omega.{arith}
use lib.Ieee.{of_bits}
use Rattle.peatcloak.proofs.LawsNextRound.{round-low, seats-few, is-over, is-next}
use Rattle.peatcloak.proofs.next_round.advance_at.Goals as goal

pub returns-then-round-eq11 : goal.returns-then-round-eq11
unfolding of_bits
returns-then-round-eq11 c =
    let a = c.args in
    let t' = is-over a.floats.now a.numbers.now c.requires.in_bounds c.requires.in_bounds_2 c.requires.numbers_value c.requires.numbers_value_2 _ c.word_at-round.ensures c.if-round-eq11.true in record { value = t'.0; floats_after = t'.1.0; numbers_after = t'.1.1.0; stands = t'.1.1.1 }

pub overflow_add-twice : goal.overflow_add-twice
overflow_add-twice c =
    omega (arith, c.word_at-round.ensures, round-low c.args.numbers.now c.requires.numbers_value)

pub put_round_floats-requires : goal.put_round_floats-requires
put_round_floats-requires c =
    let a = c.args in
    record { in_bounds = c.requires.in_bounds; n_bound = omega (arith, c.number_at-n.ensures, seats-few a.floats.now a.numbers.now c.requires.numbers_value_2) }

pub put_round_numbers-requires : goal.put_round_numbers-requires
put_round_numbers-requires c = record { in_bounds = c.requires.in_bounds_2; round_bound = omega (arith, c.word_at-round.ensures, round-low c.args.numbers.now c.requires.numbers_value) }

pub returns : goal.returns
returns c =
    let a = c.args in
    let t' = is-next a.floats.now a.numbers.now c.requires.in_bounds c.requires.in_bounds_2 c.requires.numbers_value c.requires.numbers_value_2 _ _ _ _ _ _ _ c.word_at-round.ensures c.if-round-eq11.false c.number_at-n.ensures c.set_at-active.ensures c.number_at-dealer.ensures c.first_turn-w.ensures c.put_round_floats.ensures c.put_round_numbers.ensures in record { value = t'.0; floats_after = t'.1.0; numbers_after = t'.1.1.0; stands = t'.1.1.1 }
