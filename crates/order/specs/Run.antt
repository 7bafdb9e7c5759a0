-- R14.5 to R14.7, demand 3: a run is a list of accepted actions with the states between them. How long it can be, and what it comes to. Definitions only.
use Rattle.std.specs.Prelude.{ℕ, ◌+◌, ◌-◌, ◌*◌, ◌/◌, ◌≤◌, ◌<◌, ◌≡◌, List, [], ◌∷◌, ◌++◌, length}

-- `Step c a c'`: in the state c the action a is accepted, and leads to c'
module _ {St Act : Type 0} (Step : St → Act → St → Type 0) where
  pub data Run : St → List Act → St → Type 0 where
    stop : {c : St} → Run c [] c
    act : {c d e : St} {a : Act} {l : List Act} → Step c a d → Run d l e → Run c (a ∷ l) e

  -- R14.6: after at most d of its actions the run comes to a state at which P holds
  pub record Comes (P : St → Type 0) (d : ℕ) (c : St) (l : List Act) (e : St) : Type 0 where
    pub first : List Act
    pub rest : List Act
    pub all : first ++ rest ≡ l
    pub soon : length first ≤ d
    pub at : St
    pub before : Run c first at
    pub after : Run at rest e
    pub holds : P at

  -- R14.6: or else the run has fewer than d actions, and Q holds at its end
  pub data ComesOr (P Q : St → Type 0) (d : ℕ) (c : St) (l : List Act) (e : St) : Type 0 where
    comes : Comes P d c l e → ComesOr P Q d c l e
    ends : length l < d → Q e → ComesOr P Q d c l e

-- R14.7: no run is longer, with q seats owing of n, T chips in stacks and pot, the bet b and the smallest raise m
abbrev pub longest : ℕ → ℕ → ℕ → ℕ → ℕ → ℕ
longest q n T b m = q + (n - 1) * (n + (T - b) / m)
