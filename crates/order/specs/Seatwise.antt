-- R10.2: the tests of good order that go seat by seat, as their results over the seats below n. Definitions only.
use Rattle.std.specs.Prelude.{ℕ, ◌≡◌, Bool, List, Float}
use Rattle.commons.specs.Folds.{all_to}
use Rattle.order.specs.GoodOrder.{covered, holding, playing}

pub record Seatwise (n : ℕ) (round hand stacks : List Float) (active owing : ℕ) (c h p : Bool) : Type 0 where
  pub covers : c ≡ all_to n (covered round hand)
  pub holds : h ≡ all_to n (holding active stacks)
  pub plays : p ≡ all_to n (playing owing active)
