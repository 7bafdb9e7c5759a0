-- Laws of one line put on a tape, and of the numbers that are put. Assumes nothing.
use Prim.Native.Nat.{ℕ, min}
use native.Mathlib.Omega.{arith}
use mathlib.Core.Path.{◌≡◌, refl, sym, ap, ◌∙◌}
use mathlib.Core.Logic.{⊎_elim}
use mathlib.Core.Bool.{Bool, true, false, ◌&&◌}
use mathlib.Core.List.{List}
use lib.ListN.{length, take}
use lib.Seq.{take_all, length-take-le}
use Rattle.commons.proofs.Order.{lt_or_le}
use Rattle.script.specs.declared.line.Words.{Words}
use Rattle.std.specs.Prelude.{Result}
use Rattle.journal.specs.declared.laying.NotLaid.{NotLaid}
use Rattle.journal.specs.Tape.{put_line, tape_after}
use Rattle.recorder.specs.declared.recording.Filled.{Filled}
use Rattle.recorder.specs.Laying.{after_put, taped, laid_line}

-- of twenty numbers, those of a line of so many
module _ (count : ℕ) (ns : List ℕ) (used : ℕ) (u : used ≡ min count 20) (long : length ns ≡ 20) where
  pub used-counted : used ≡ length (take used ns)
  used-counted = sym (length-take-le used ns (omega arith))

  pub used_takes : take used ns ≡ take count ns
  used_takes =
      ⊎_elim (λ h. let e : used ≡ count = omega arith in ap (λ (k : ℕ). take k ns) e)
      (λ h. take_all used ns (omega arith) ∙ sym (take_all count ns (omega arith))) (lt_or_le count 20)

-- the line was put, and the answer turned out to be v
pub put_so : (f : Filled) (long l : ℕ) (t : List ℕ) {ns ms u : List ℕ} {p v : Result ℕ NotLaid} → ns ≡ ms → p ≡ put_line long f.entries l ns → p ≡ v → u ≡ tape_after f.entries l ns t
    → (after_put f v ≡ after_put f (put_line long f.entries l ms)) × (u ≡ tape_after f.entries l ms t)
put_so f long l t m e d a = (ap (after_put f) (sym d ∙ e ∙ ap (put_line long f.entries l) m), a ∙ ap (λ (x : List ℕ). tape_after f.entries l x t) m)

-- a line that goes in is put while all before it found room
module _ (goes : Bool) (w : Words) (f : Filled) (t : List ℕ) where
  pub laid_so : {r : Filled} {u : List ℕ} → goes && f.is_whole ≡ true → r ≡ after_put f (put_line (length t) f.entries w.letter (take w.count w.numbers))
      → u ≡ tape_after f.entries w.letter (take w.count w.numbers) t → (r ≡ (laid_line goes w (taped f t)).filled) × (u ≡ (laid_line goes w (taped f t)).tape)
  unfolding laid_line
  laid_so g e d = rw g (e, d)

  pub not-laid : goes && f.is_whole ≡ false → (f ≡ (laid_line goes w (taped f t)).filled) × (t ≡ (laid_line goes w (taped f t)).tape)
  unfolding laid_line
  not-laid g = rw g (refl, refl)
