-- A difference of two amounts of chips as a signed number of 32 bits: it fits, so casting, subtracting and keeping it lose nothing. Assumes nothing.
use Rattle.std.proofs.Common.{◌≡◌, ℕ, zero, suc, ◌^◌, ◌<◌, ◌≤◌, ℤ, pos, ◌-ℤ◌, sym, ◌∙◌, subst, ⊎_elim, arith, w32, SFits, to_z, of_z, le-ltb, lt-ltb}
use lib.IntN.{sub_ℕ}
use lib.Signed.{mag}
use mir.ValLaws.{to_z_pos, to_z-of_z}
use Rattle.commons.proofs.Order.{lt_or_le}
use Rattle.chips.specs.Whole.{most}

sub-mag : (a b k : ℕ) → a ≤ k → b ≤ k → mag (sub_ℕ a b) ≤ k
sub-mag a b k h g = ⊎_elim (λ l. rw (lt-ltb a b l) (omega arith)) (λ r. rw (le-ltb a b r) (omega arith)) (lt_or_le a b)

pub less-mag : (a b k : ℕ) → a ≤ k → b ≤ k → mag (pos a -ℤ pos b) ≤ k
less-mag a zero k h g = omega arith
less-mag a (suc b) k h g = sub-mag a (suc b) k h g

small : {a : ℕ} → a ≤ most → a < 2 ^ 31
small h = omega arith

module _ {a b : ℕ} (h : a ≤ most) (g : b ≤ most) where
  pub less-fits : SFits w32 (pos a -ℤ pos b)
  less-fits = record { sfits = omega (arith, less-mag a b most h g) }

  -- what the code's subtraction asks, and gives
  pub less_asked : SFits w32 (to_z w32 a -ℤ to_z w32 b)
  less_asked = rw (to_z_pos w32 a (small h), to_z_pos w32 b (small g)) less-fits

  pub less-is : to_z w32 (of_z w32 (to_z w32 a -ℤ to_z w32 b)) ≡ pos a -ℤ pos b
  less-is = to_z-of_z w32 (to_z w32 a -ℤ to_z w32 b) less_asked ∙ rw (to_z_pos w32 a (small h), to_z_pos w32 b (small g))

  -- as an array keeps it
  pub less-kept : (r : ℤ) (x y : ℕ) → r ≡ pos x -ℤ pos y → x ≡ a → y ≡ b → to_z w32 (of_z w32 r) ≡ pos a -ℤ pos b
  less-kept r x y e p q =
      let d : r ≡ pos a -ℤ pos b = e ∙ λ i. pos (p i) -ℤ pos (q i) in
      to_z-of_z w32 r (subst (SFits w32) (sym d) less-fits) ∙ d
