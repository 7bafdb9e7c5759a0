-- The tolerance of a whole number of chips up to 8,000: both products of it are exact, and it lies above 0 and below 1 - 2 ^ -11.
-- So no test with it differs from the test without. Assumes nothing.
use Rattle.std.proofs.Common.{◌≡◌, ℕ, ◌+◌, ◌*◌, ◌^◌, ◌<◌, ◌≤◌, true, false, eqb, ltb, refl, ◌∙◌, mul-le-mul_right, mul-pos, zero-mul, mul-one, arith, lit≤, pow_pos, le-ltb, lt-ltb}
use lib.Ieee.{Float, nan, inf, fin, binary32, up, down, add, mul, lt}
use lib.Ieee.Exact.{HasValue}
use lib.Ieee.Fits.{down_pos}
use lib.Ieee.Positive.{num, den, positive_of_value, mul_at}
use Rattle.floats.specs.Helpers.{tol_of, epsilon, thousand}
use Rattle.chips.specs.Whole.{most}
use Rattle.commons.proofs.Order.{ltb-same, is-ltb, is-eqb}
use Rattle.chips.proofs.Value.{Val, Is, of-value, lt_val}
use Rattle.chips.proofs.Round.{exact, under, not-under}
use Rattle.chips.proofs.Add.{add-round, positive-round, over-pos, over-right, num-left}

-- above 0 there is no sign
signless : (x : Float) (k : ℕ) → 0 < k → Is x k → HasValue x false k 1
signless nan k h v = v.plain
signless (inf s) k h v = v.plain
signless (fin false m e) k h v = (refl, v.size)
signless (fin true m e) k h v =
    let z : m ≡ 0 = v.plain refl in
    let s : m * up e * 1 ≡ k * down e = v.size in
    let a : 0 < k * down e = mul-pos h (down_pos e) in
    absurd (omega (arith, rw (z, zero-mul (up e)) at s))

-- how many parts of 2 ^ 23 the tolerance of one chip has: 1000
abbrev per : ℕ
per = num thousand

tol-value : (x : Float) (k : ℕ) → Is x k → 1 ≤ k → k ≤ most → HasValue (tol_of x) false (k * per) (2 ^ 23)
unfolding tol_of
tol-value x k v lo hi =
    let h = signless x k lo v in
    let E : HasValue epsilon false 1 (2 ^ 23) = (refl, refl) in
    let K : HasValue thousand false per 1 = (refl, refl) in
    let once : HasValue (mul binary32 x epsilon) false k (2 ^ 23) =
    rw (mul_at binary32 x epsilon k 1 1 (2 ^ 23) (positive_of_value x k 1 h lo) tt (pow_pos 0) (pow_pos 23) h E) (exact binary32 false (k * 1) (1 * 2 ^ 23) k 23 (pow_pos 23) (omega arith) (lit≤ tt) (rw mul-one)) in
    rw (mul_at binary32 (mul binary32 x epsilon) thousand k (2 ^ 23) per 1 (positive_of_value (mul binary32 x epsilon) k (2 ^ 23) once lo) tt (pow_pos 23) (pow_pos 0) once K)
    (exact binary32 false (k * per) (2 ^ 23 * 1) (k * per) 23 (pow_pos 23) (omega arith) (lit≤ tt) refl)

-- a tolerance: E parts of 2 ^ 23, above 0, and no more than those of 8,000 chips
pub record Slack (e : Float) : Type 0 where
  pub parts : ℕ
  pub value : Val e parts (2 ^ 23)
  pub some : 0 < parts
  pub few : parts ≤ most * per

pub tol_slack : {x : Float} {k : ℕ} → Is x k → 1 ≤ k → k ≤ most → Slack (tol_of x)
tol_slack {x} {k} v lo hi = record { parts = k * per; value = of-value _ (k * per) (2 ^ 23) (pow_pos 23) (tol-value x k v lo hi); some = omega arith; few = omega arith }

-- `w + e < v` where w < v
pub slack_lt : {w e v : Float} {i j : ℕ} → Is w i → Slack e → Is v j → i ≤ most → lt (add binary32 w e) v ≡ ltb i j
slack_lt {w} {e} {v} {i} {j} p s q h =
    let N = num w * den e + num e * den w in
    let D = den w * den e in
    let E = s.parts in
    let P : 0 < D = over-pos w e in
    -- N / D is i + E / 2 ^ 23
    let a : num w * den e ≡ i * D = num-left p e in
    let b : num e * den w * 2 ^ 23 ≡ E * D = over-right s.value w in
    let c : 0 < E * D = mul-pos s.some P in
    let d : E * D ≤ most * per * D = mul-le-mul_right D s.few in
    rw (positive-round _ N D (omega arith) (add-round w e p.plain s.value.plain))
    (is-ltb _ i j
    (λ l. under binary32 q N D P (i * 2048 + 2047) 11 (omega arith) (lit≤ tt) (omega arith) (omega arith))
    (λ g. not-under binary32 q N D P (omega arith) (omega (arith, mul-le-mul_right D g))))

-- `e < r` where r > 0, and `r < e` where r = 0
module _ {e r : Float} {R : ℕ} (s : Slack e) (q : Is r R) where
  pub slack_above : lt e r ≡ ltb 0 R
  slack_above = lt_val s.value q ∙ ltb-same (s.parts * 1) (R * 2 ^ 23) 0 R (λ h. omega (arith, s.few)) (λ h. omega arith)

  pub slack_zero : lt r e ≡ eqb R 0
  slack_zero = lt_val q s.value ∙ is-eqb _ R 0 (λ z. lt-ltb (R * 2 ^ 23) (s.parts * 1) (omega (arith, s.some))) (λ n. le-ltb (R * 2 ^ 23) (s.parts * 1) (omega (arith, s.few)))
