-- What the test of a hand that can be paid out says, part by part: at most 16 seats, `first` among them, at most 8,000 chips, and a contender.
-- Assumes nothing.
use Prim.Native.Nat.{◌≤◌, ◌<◌}
use mathlib.Core.Path.{◌≡◌}
use mathlib.Core.Bool.{true}
use borrow.Author.Tests.{lt-ltb, le-leb, leb-true, ltb-true}
use Rattle.commons.proofs.Tests.{test_at}
use Rattle.layers.specs.declared.Hand.{Hand}
use Rattle.commons.specs.Folds.{any_to}
use Rattle.layers.specs.Settlement.{contends, pot_of, payable_tests, is_payable}

pub record Payable (h : Hand) : Type 0 where
  pub few : h.n ≤ 16
  pub seated : h.first < h.n
  pub limit : pot_of h ≤ 8000
  pub someone : any_to h.n (contends h) ≡ true

module _ (h : Hand) where
  pub payable : is_payable h ≡ true → Payable h
  unfolding is_payable
  payable y =
      let at = test_at (payable_tests h) y in
      record { few = leb-true h.n 16 (at 0); seated = ltb-true h.first h.n (at 1); limit = leb-true (pot_of h) 8000 (at 2); someone = at 3 }

  -- where the numbers are in order, it is whether anybody contends
  pub payable-is : h.n ≤ 16 → h.first < h.n → pot_of h ≤ 8000 → is_payable h ≡ any_to h.n (contends h)
  unfolding is_payable
  payable-is a b c = rw (le-leb h.n 16 a, lt-ltb h.first h.n b, le-leb (pot_of h) 8000 c)
