-- R18.2, R18.4: a block of 512 bytes, as it is written and as it is read. Definitions only.
use Rattle.std.specs.Prelude.{ℕ, zero, suc, ◌+◌, ◌*◌, ◌-◌, Bool, cond, not, ◌||◌, List, [], ◌∷◌, ◌++◌, eqb, leb, ltb, length, replicate}
use Rattle.commons.specs.Tests.{all_of}
use Rattle.keys.specs.Keys.{key_of}
use Rattle.commons.specs.Folds.{all_to}
use Rattle.journal.specs.Check.{byte, sum_check, run_check}
use Rattle.journal.specs.Entry.{two_bytes, four_bytes, two_at, four_at, all_bytes, is_entry}
use Rattle.journal.specs.declared.block.Title.{Title}

-- the editions that are known
abbrev pub is_edition : ℕ → Bool
is_edition e = eqb e 1

-- ---- the block that is written
unfoldable pub zeros : ℕ → List ℕ
zeros n = replicate n 0

abbrev pub bit : Bool → ℕ
bit t = cond t 1 0

-- bytes 0 to 15: code, year, hand, block within the hand, last, entries used, edition, zeros
unfoldable pub head_of : Title → ℕ → ℕ → ℕ → List ℕ
head_of k index last used =
    two_bytes k.key.code ++ two_bytes k.key.year ++ four_bytes k.key.hand ++ (index ∷ last ∷ used ∷ k.edition ∷ 0 ∷ 0 ∷ 0 ∷ 0 ∷ [])

-- bytes 0 to 509
unfoldable pub body_of : Title → ℕ → ℕ → List ℕ → List ℕ
body_of k index last ws = head_of k index last (length ws) ++ all_bytes ws ++ zeros (494 - 4 * length ws)

abbrev pub checked : List ℕ → List ℕ
checked body = body ++ (sum_check body ∷ run_check body ∷ [])

unfoldable pub block_of : Title → ℕ → ℕ → List ℕ → List ℕ
block_of k index last ws = checked (body_of k index last ws)

-- ---- the block that is read
abbrev pub title_at : List ℕ → Title
title_at b = record { key = key_of (two_at b 0) (two_at b 2) (four_at b 4); edition = byte b 11 }

abbrev pub entry_at : List ℕ → ℕ → ℕ
entry_at b i = four_at b (16 + 4 * i)

-- the first n entries
unfoldable pub entries_from : List ℕ → ℕ → ℕ → List ℕ
entries_from b i zero = []
entries_from b i (suc n) = entry_at b i ∷ entries_from b (suc i) n

abbrev pub entries_of : List ℕ → List ℕ
entries_of b = entries_from b 0 (byte b 10)

unfoldable pub zero_at : List ℕ → ℕ → ℕ → Bool
zero_at b at n = all_to n (λ i. eqb (byte b (at + i)) 0)

-- a used entry is a letter or a number, an unused one is zero
unfoldable pub entry_fits : Bool → ℕ → Bool
entry_fits used w = cond used (is_entry w) (eqb w 0)

unfoldable pub entries_fit : List ℕ → Bool
entries_fit b = all_to 120 (λ i. entry_fits (ltb i (byte b 10)) (entry_at b i))

-- the layout of a block, as far as one block shows it
abbrev pub block_tests : List ℕ → List Bool
block_tests b =
    eqb (length b) 512
    ∷ not (eqb (two_at b 2) 0)
    ∷ ltb (byte b 8) 255
    ∷ leb (byte b 9) 1
    ∷ leb 1 (byte b 10)
    ∷ leb (byte b 10) 120
    ∷ (eqb (byte b 9) 1 || eqb (byte b 10) 120)
    ∷ is_edition (byte b 11)
    ∷ zero_at b 12 4
    ∷ entries_fit b
    ∷ zero_at b 496 14
    ∷ eqb (byte b 510) (sum_check b)
    ∷ eqb (byte b 511) (run_check b)
    ∷ []

unfoldable pub block_ok : List ℕ → Bool
block_ok b = all_of (block_tests b)
