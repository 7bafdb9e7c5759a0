-- What holds of each hand that some lines open holds of every hand of theirs; what stands before a line, and the line itself, may be put to use.
-- Assumes nothing.
use mathlib.Core.Path.{◌≡◌, sym, subst}
use mathlib.Core.Logic.{⊎_elim}
use mathlib.Core.Bool.{true}
use mathlib.Core.List.Memᴰ
use mathlib.Core.List.{List, [], ◌∷◌, Memᴰ}
use Rattle.commons.proofs.Bools.{tested}
use Rattle.script.specs.declared.line.Words.{Words}
use Rattle.console.specs.declared.act.State.{State}
use Rattle.recorder.specs.Hands.{after, opens, Recorded, opened, hands_of}

pub data Each {A : Type 0} (P : A → Type 0) : List A → Type 0 where
  none : Each P []
  more : {a : A} {l : List A} → P a → Each P l → Each P (a ∷ l)

pub each_of : {A : Type 0} {P : A → Type 0} → ((a : A) → P a) → (l : List A) → Each P l
each_of f [] = none
each_of f (a ∷ l) = more (f a) (each_of f l)

module _ (W : Words → Type 0) (I : State → Type 0) (P : Recorded → Type 0) where
  abbrev pub Keeps : Type 0
  Keeps = (w : Words) (s : State) → W w → I s → I (after w s)

  abbrev pub Opens : Type 0
  Opens = (s : State) (w : Words) (ws : List Words) → I s → W w → Each W ws → opens w s ≡ true → P (opened s w ws)

  pub every_hand : Keeps → Opens → (ws : List Words) (s : State) → I s → Each W ws → (h : Recorded) → Memᴰ h (hands_of s ws) → P h
  unfolding hands_of
  every_hand keeps opens_so [] s i none h m = absurd (Memᴰ.not-nil m)
  every_hand keeps opens_so (w ∷ ws) s i (more p a) h m =
      let later = every_hand keeps opens_so ws (after w s) (keeps w s p i) a in
      tested (λ (l : List Recorded). Memᴰ h l → P h) (opens w s) (opened s w ws ∷ hands_of (after w s) ws) (hands_of (after w s) ws)
      (λ e d. ⊎_elim (λ q. subst P (sym q) (opens_so s w ws i p a e)) (λ d. later h d) (Memᴰ.cases_cons d)) (λ f d. later h d) m
