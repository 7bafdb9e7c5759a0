-- R18.13: bytes laid into a block that begins as zeros, one after the other. Definitions only.
use Rattle.std.specs.Prelude.{ℕ, zero, suc, ◌+◌, ◌*◌, ◌-◌, ◌/◌, ◌%◌, List, ◌++◌, length, get_or, set}
use Rattle.journal.specs.Block.{zeros}
use Rattle.journal.specs.declared.block.Title.{Title}

-- a block of which these bytes are laid, and the rest is zero
unfoldable pub begun : List ℕ → List ℕ
begun xs = xs ++ zeros (512 - length xs)

unfoldable pub four_put : List ℕ → ℕ → ℕ → List ℕ
four_put l i w = set (set (set (set l i (w % 256)) (i + 1) (w / 256 % 256)) (i + 2) (w / 65536 % 256)) (i + 3) (w / 16777216)

unfoldable pub head_put : List ℕ → Title → ℕ → ℕ → ℕ → List ℕ
head_put l k index last used =
    four_put (four_put (four_put l 0 (k.key.code + k.key.year * 65536)) 4 k.key.hand) 8 (index + last * 256 + used * 65536 + k.edition * 16777216)

-- the first n words of a list, from byte 16 on
unfoldable pub words_put : ℕ → List ℕ → List ℕ → List ℕ
words_put zero l ws = l
words_put (suc n) l ws = four_put (words_put n l ws) (16 + 4 * n) (get_or ws n 0)
