-- `peatcloak::bet::bet_at`: by the verdict. Assumes nothing.
use mathlib.Core.Path.{ap, ◌∙◌}
use Rattle.rounds.specs.declared.paying.Payer.{Payer}
use Rattle.peatcloak.proofs.LawsBet.{numbers-there, seat-low, is-refused, is-paid}
use Rattle.peatcloak.proofs.bet.bet_at.Goals as goal

pub payer_at-p-requires : goal.payer_at-p-requires
payer_at-p-requires c =
    let a = c.args in
    record { in_bounds = c.requires.in_bounds; numbers_bound = seat-low a.floats.now a.numbers.now c.requires.numbers_value }

pub put_floats-requires : goal.put_floats-requires
put_floats-requires c =
    let a = c.args in
    record { in_bounds = c.requires.in_bounds; i_bound = rw (ap (λ (p : Payer). p.seat) c.payer_at-p.ensures) (seat-low a.floats.now a.numbers.now c.requires.numbers_value) }

pub put_numbers-requires : goal.put_numbers-requires
put_numbers-requires c =
    let a = c.args in
    numbers-there a.floats.now a.numbers.now c.requires.numbers_value

pub returns-in-Err : goal.returns-in-Err
returns-in-Err c =
    let a = c.args in
    let t' = is-refused a.floats.now a.numbers.now c.requires.in_bounds c.requires.numbers_value a.amount a.is_forced _ c.payer_at-p.ensures _ c.verdict_at.ensures _ _ c.in-Err.is (c.word_of_byte.ensures.value ∙ c.number.ensures) in record { value = t'.0; floats_after = t'.1.0; numbers_after = t'.1.1.0; stands = t'.1.1.1 }

pub returns-in-Ok : goal.returns-in-Ok
returns-in-Ok c =
    let a = c.args in
    let t' = is-paid a.floats.now a.numbers.now c.requires.in_bounds c.requires.numbers_value a.amount a.is_forced _ c.payer_at-p.ensures _ c.verdict_at.ensures _ c.in-Ok.is _ c.number_at-n.ensures _ c.pay-after.ensures _ c.walk-w.ensures _ _ c.put_floats.ensures c.put_numbers.ensures.numbers_after c.put_numbers.ensures.fits in record { value = t'.0; floats_after = t'.1.0; numbers_after = t'.1.1.0; stands = t'.1.1.1 }
