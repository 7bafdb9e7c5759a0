-- What the test of round data says, test by test. Assumes nothing.
use Prim.Native.Nat.{ℕ, ◌<◌, ◌≤◌, ◌^◌}
use native.Mathlib.Omega.{arith}
use mathlib.Core.Path.{◌≡◌}
use mathlib.Core.Bool.{true}
use borrow.Author.Tests.{leb-true, ltb-true}
use Rattle.commons.proofs.Tests.{test_at}
use Rattle.rounds.specs.Sound.{sound_tests, sound_parts}

pub record Sound (len to set : ℕ) : Type 0 where
  pub some : 1 ≤ len
  pub few : len ≤ 16
  pub acts : to < len
  pub place : to < 16
  pub owing : set < 2 ^ len

pub sound : (len to owing : ℕ) → sound_parts len to owing ≡ true → Sound len to owing
unfolding sound_parts
sound len to owing p =
    let at = test_at (sound_tests len to owing) p in
    let few : len ≤ 16 = leb-true _ _ (at 1) in
    let acts : to < len = ltb-true _ _ (at 2) in
    record { some = leb-true _ _ (at 0); few = few; acts = acts; place = omega arith; owing = ltb-true _ _ (at 3) }
