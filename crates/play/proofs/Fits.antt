-- What a part laid fits the buffer that it was laid in. Assumes nothing.
use mathlib.Core.Path.{◌≡◌, sym, ap}
use mathlib.Core.List.{List}
use Prim.Native.Nat.{ℕ, ◌≤◌}
use native.Mathlib.Omega.{arith}
use lib.ListN.{length, take, drop, length-append, length-drop}
use lib.Seq.{length-take-le}
use Rattle.console.specs.declared.play.Console.{Console}
use Rattle.console.specs.declared.play.Played.{Played}
use Rattle.console.specs.Parts.{script_part, played_of, over}

module _ (s : List ℕ) (at : ℕ) (c : Console) (d d' : List ℕ) (p : Played) (is : p ≡ played_of (script_part s at c (length d)))
    (laid : d' ≡ over (script_part s at c (length d)).bytes d) (kept : length d' ≡ length d) where
  len_is : p.len ≡ length (script_part s at c (length d)).bytes
  len_is = rw is

  pub part-fits : p.len ≤ length d'
  part-fits =
      let b : List ℕ = (script_part s at c (length d)).bytes in
      omega (arith, len_is, ap length laid, length-append b (drop (length b) d), length-drop (length b) d)

  pub part-counts : p.len ≡ length (take p.len d')
  part-counts = sym (length-take-le p.len d' part-fits)

  pub part-is : (n : ℕ) → n ≡ length d → p ≡ played_of (script_part s at c n)
  part-is n e = rw (is, e)
