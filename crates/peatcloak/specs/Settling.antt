-- R15.11: what a settlement of the table in a host's lists comes to, and the rewards that are told. Definitions only.
use Rattle.std.proofs.Common.{to_z, of_z}
use Rattle.std.specs.Int.{w32}
use Rattle.std.specs.Prelude.{ℕ, cond, ◌&&◌, List, leb, eqb, ℤ, pos, get_or, length, replicate, Float}
use Rattle.commons.specs.Filled.{filled, copied}
use Rattle.settlement.specs.declared.Settled.{Settled}
use Rattle.settlement.specs.Settlement.{settled_of}
use Rattle.layout.specs.Outcome.{Outcome}
use Rattle.layout.specs.Standing.{table_at, stands_in}
use Rattle.peatcloak.specs.Calls.{judged, nothing_there}

-- the ranks of sixteen seats
abbrev pub ranks_at : List ℕ → List ℕ
ranks_at l = copied 0 0 (replicate 16 0) 0 l 16

abbrev pub settled_at : List Float → List ℕ → List ℕ → Settled
settled_at fs ns ranks = settled_of (table_at fs ns) (ranks_at ranks)

abbrev pub paid_out : Settled → Outcome
paid_out s = judged s.answer s.table

-- 16 ranks, room for 16 rewards, and a table
abbrev pub settle_on : List Float → List ℕ → List ℕ → ℕ → Outcome
settle_on fs ns ranks rewards = cond ((leb 16 (length ranks) && leb 16 rewards) && stands_in fs ns) (paid_out (settled_at fs ns ranks)) (nothing_there fs ns)

-- the rewards are told where it is accepted
abbrev pub rewards_told : List ℤ → List ℤ → List ℤ
rewards_told told rs = filled 16 rs (λ i. get_or told i (pos 0))

abbrev pub rewards_after : Outcome → List ℤ → List ℤ → List ℤ
rewards_after o told rs = cond (eqb o.number 0) (rewards_told told rs) rs

-- as 32-bit words: a number that fits stays as it is
abbrev pub in_words : List ℤ → List ℤ → List ℤ
in_words told rs = filled 16 rs (λ i. to_z w32 (of_z w32 (get_or told i (pos 0))))

-- the words that are laid where it is accepted
abbrev pub words_after : Outcome → List ℤ → List ℤ → List ℤ
words_after o told rs = cond (eqb o.number 0) (in_words told rs) rs
