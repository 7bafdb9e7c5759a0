-- `layout::words::round_of`: by the twelve numbers, and what is none of the first eleven is the last. Assumes nothing.
use Rattle.layout.specs.Words.{round_of}
use Rattle.layout.proofs.Rounds.{round-rest}
use Rattle.layout.proofs.words.round_of.Goals as goal

pub returns-in-0 : goal.returns-in-0
unfolding round_of
returns-in-0 c = rw c.in-0.is

pub returns-in-1 : goal.returns-in-1
unfolding round_of
returns-in-1 c = rw c.in-1.is

pub returns-in-2 : goal.returns-in-2
unfolding round_of
returns-in-2 c = rw c.in-2.is

pub returns-in-3 : goal.returns-in-3
unfolding round_of
returns-in-3 c = rw c.in-3.is

pub returns-in-4 : goal.returns-in-4
unfolding round_of
returns-in-4 c = rw c.in-4.is

pub returns-in-5 : goal.returns-in-5
unfolding round_of
returns-in-5 c = rw c.in-5.is

pub returns-in-6 : goal.returns-in-6
unfolding round_of
returns-in-6 c = rw c.in-6.is

pub returns-in-7 : goal.returns-in-7
unfolding round_of
returns-in-7 c = rw c.in-7.is

pub returns-in-8 : goal.returns-in-8
unfolding round_of
returns-in-8 c = rw c.in-8.is

pub returns-in-9 : goal.returns-in-9
unfolding round_of
returns-in-9 c = rw c.in-9.is

pub returns-in-10 : goal.returns-in-10
unfolding round_of
returns-in-10 c = rw c.in-10.is

pub returns-in_default : goal.returns-in_default
returns-in_default c =
    let below-11 = c.in_default.in_default-own.rest in
    let below-8 = below-11.0.0.0 in
    let below-5 = below-8.0.0.0 in
    let below-2 = below-5.0.0.0 in
    round-rest _ below-2.0.1 below-2.1 below-5.0.0.1 below-5.0.1 below-5.1 below-8.0.0.1 below-8.0.1 below-8.1 below-11.0.0.1 below-11.0.1 below-11.1
