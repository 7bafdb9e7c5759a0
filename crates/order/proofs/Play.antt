-- Demand 3 over any record: a play shows a view of its states, and in good order each of its accepted actions is made while somebody owes, and shows as a fold or
-- as a payment that the raise rule allows. Then it is a game of turns: `run_bound` and `turn-comes` hold of it, and its runs keep good order. Assumes nothing.
use Prim.Native.Nat.{ℕ, ◌<◌}
use mathlib.Core.Path.{◌≡◌}
use mathlib.Core.Bool.{true}
use mathlib.Core.List.{List}
use Rattle.order.specs.Run.{Run, stop, act}
use Rattle.order.proofs.View.{View}
use Rattle.order.proofs.Turn.{Game, Acted}
use Rattle.order.proofs.Good.{Good}
use Rattle.order.proofs.Raise.{Rule}
use Rattle.order.proofs.Fold.{Folds, fold-acts, fold-keeps}
use Rattle.order.proofs.Pay.{Fine, Pays, pay-acts, pay-keeps}

pub data Taken (R : Rule) (n : ℕ) (v w : View) : Type 0 where
  folds : Folds n v w → Taken R n v w
  pays : (x : ℕ) → Fine R v x → Pays R n v x w → Taken R n v w

abbrev pub Somebody : ℕ → View → Type 0
Somebody n v = (j : ℕ) × (j < n) × (v.owes j ≡ true)

module _ {R : Rule} {n total : ℕ} {v w : View} (g : Good n total v) where
  pub taken-acts : Somebody n v → Taken R n v w → Acted n total v w
  taken-acts j (folds f) = fold-acts g f (g.turn j.0 j.1 j.2)
  taken-acts j (pays x f p) = pay-acts g f p (g.turn j.0 j.1 j.2)

  pub taken-keeps : Taken R n v w → Good n total w
  taken-keeps (folds f) = fold-keeps g f
  taken-keeps (pays x f p) = pay-keeps g f p

-- `Inv` may ask more of a state than what is seen of it: that its amounts are whole
pub record Play (St Act : Type 0) (R : Rule) (n total : ℕ) : Type 1 where
  pub view : St → View
  pub Step : St → Act → St → Type 0
  pub Inv : St → Type 0
  pub good : (c : St) → Inv c → Good n total (view c)
  pub owing : (c : St) (a : Act) (d : St) → Inv c → Step c a d → Somebody n (view c)
  pub taken : (c : St) (a : Act) (d : St) → Inv c → Step c a d → Taken R n (view c) (view d)
  pub keeps : (c : St) (a : Act) (d : St) → Inv c → Step c a d → Good n total (view d) → Inv d

module _ {St Act : Type 0} {R : Rule} {n total : ℕ} (P : Play St Act R n total) where
  abbrev pub game : Game St Act n total
  game = record {
    view = P.view;
    Step = P.Step;
    Inv = P.Inv;
    seated = λ c i. (P.good c i).seated;
    acts = λ c a d i s. taken-acts (P.good c i) (P.owing c a d i s) (P.taken c a d i s);
    keeps = λ c a d i s. P.keeps c a d i s (taken-keeps (P.good c i) (P.taken c a d i s));
  }

  pub run_keeps : {c e : St} {l : List Act} → P.Inv c → Run P.Step c l e → P.Inv e
  run_keeps i stop = i
  run_keeps i (act {c} {d} {e} {a} {l} s r) = run_keeps (game.keeps c a d i s) r
