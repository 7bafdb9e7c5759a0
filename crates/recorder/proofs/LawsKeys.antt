-- The key that stands between two lines of a script fits its bits: none stands at the start and after an accepted `t`, and a `k` line's numbers have 16 bits.
-- Assumes nothing.
use native.Mathlib.Omega.{arith}
use mathlib.Core.Path.{◌≡◌, refl, sym, ap, subst}
use mathlib.Core.Bool.{Bool, true, false}
use lib.ListN.{get_or}
use borrow.Author.Tests.{eqb-true, eqb-false}
use lib.Dec.{eqb}
use Rattle.commons.proofs.Bools.{either}
use mathlib.Core.Logic.{⊎_elim}
use Rattle.keys.specs.declared.HandKey.{HandKey}
use Rattle.keys.specs.Keys.{key_of, no_key}
use Rattle.script.specs.declared.line.Words.{Words}
use Rattle.console.specs.declared.act.State.{State}
use Rattle.console.specs.declared.act.Act.{Act}
use Rattle.console.proofs.LawsBack.{refused-keeps}
use Rattle.console.proofs.LawsKey.{table_takes_key, key-is-put, others_leave_keys}
use Rattle.journal.proofs.Hands.{KeyFits}
use Rattle.recorder.specs.Entries.{title_of}
use Rattle.recorder.specs.Hands.{answered, after, opens, goes_in}
use Rattle.recorder.proofs.LawsLine.{opens_so, table-refused, goes_so, left_so}
use Rattle.recorder.proofs.LawsWords.{Proper, place-small}

abbrev pub Fitting : HandKey → Type 0
Fitting k = KeyFits (title_of k)

pub none-fits : Fitting no_key
none-fits = record { code = omega arith; year = omega arith; hand = omega arith }

module _ (w : Words) (s : State) (p : Proper w) (f : Fitting s.key) where
  typed-fits : Fitting (key_of (get_or w.numbers 0 0) (get_or w.numbers 1 0) (get_or w.numbers 2 0))
  typed-fits = record { code = omega (arith, place-small p 0); year = omega (arith, place-small p 1); hand = omega (arith, place-small p 2) }

  by : (o g : Bool) → opens w s ≡ o → goes_in w s ≡ g → Fitting (after w s).key
  by true g eo eg = let q = opens_so w s eo in subst Fitting (sym (table_takes_key w s q.0 q.1).3) none-fits
  by false true eo eg = let q = goes_so w s eg in subst Fitting (sym (others_leave_keys w s (λ t. table-refused w s eo t q.1) q.0).1) f
  by false false eo eg =
      ⊎_elim (λ z. subst Fitting (sym (ap (λ (a : Act). a.state.key) (key-is-put w s (left_so w s eg (eqb-true _ _ z))))) typed-fits)
      (λ n. subst Fitting (sym (ap (λ (u : State). u.key) (refused-keeps w s (eqb-false _ _ n)))) f) (either (eqb (answered w s) 0))

  pub key_fits : Fitting (after w s).key
  key_fits = by (opens w s) (goes_in w s) refl refl
