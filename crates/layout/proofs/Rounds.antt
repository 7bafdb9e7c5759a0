-- The round of a number: the twelve are there and back, and past the last there is no other. Assumes nothing.
use Prim.Native.Nat.{ℕ, zero, suc, ◌+◌, ◌-◌, ◌<◌, ◌≤◌}
use native.Mathlib.Omega.{arith}
use native.Mathlib.Nat.{suc-add}
use mathlib.Core.Path.{◌≡◌, refl, sym, ap, ◌∙◌}
use mathlib.Core.Logic.{◌≢◌}
use borrow.Author.Count.{below_none, below_more}
use Rattle.rounds.specs.declared.Round.{Round}
use Rattle.rounds.specs.declared.Round.TheVariants.{Starting, Ante, DealPreflop, Preflop, DealFlop, Flop, DealTurn, Turn, DealRiver, River, Showdown, Complete}
use Rattle.rounds.specs.Order.{next_of, round_number}
use Rattle.layout.specs.Words.{round_of}

pub round-back : (r : Round) → round_of (round_number r) ≡ r
unfolding round_of
round-back Starting = refl
round-back Ante = refl
round-back DealPreflop = refl
round-back Preflop = refl
round-back DealFlop = refl
round-back Flop = refl
round-back DealTurn = refl
round-back Turn = refl
round-back DealRiver = refl
round-back River = refl
round-back Showdown = refl
round-back Complete = refl

last-from : (k : ℕ) → Complete ≡ round_of (k + 11)
unfolding round_of
last-from zero = refl
last-from (suc k) = ap next_of (last-from k) ∙ ap round_of (sym (suc-add k 11))

pub round-last : (n : ℕ) → 11 ≤ n → Complete ≡ round_of n
round-last n h = let e : n - 11 + 11 ≡ n = omega arith in last-from (n - 11) ∙ ap round_of e

-- none of the first eleven, one after another
past : {k n : ℕ} → k ≤ n → n ≢ k → k + 1 ≤ n
past h e = omega (arith, h, e)

pub round-rest : (n : ℕ) → n ≢ 0 → n ≢ 1 → n ≢ 2 → n ≢ 3 → n ≢ 4 → n ≢ 5 → n ≢ 6 → n ≢ 7 → n ≢ 8 → n ≢ 9 → n ≢ 10 → Complete ≡ round_of n
round-rest n a b c d e f g h i j k =
    let four : 4 ≤ n = past (past (past (past (omega arith) a) b) c) d in
    let eight : 8 ≤ n = past (past (past (past four e) f) g) h in
    round-last n (past (past (past eight i) j) k)

-- and the number of one that a number below twelve tells is that number
pub number-again : (n : ℕ) → n < 12 → round_number (round_of n) ≡ n
unfolding round_of
number-again =
    let Again : ℕ → Type 0 = λ n. round_number (round_of n) ≡ n in
    let more = below_more Again in
    more 11 (more 10 (more 9 (more 8 (more 7 (more 6 (more 5 (more 4 (more 3 (more 2 (more 1 (more 0 (below_none Again) refl) refl) refl) refl) refl) refl) refl) refl) refl) refl) refl) refl
