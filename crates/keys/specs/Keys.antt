-- Section 17: the key of a hand: table code, year, hand number. Definitions only.
use Rattle.std.specs.Prelude.{ℕ, Bool, not, ◌&&◌, ◌||◌, eqb, ltb}
use Rattle.keys.specs.declared.HandKey.{HandKey}

abbrev pub key_of : ℕ → ℕ → ℕ → HandKey
key_of code year hand = record { code = code; year = year; hand = hand }

-- R17.1: no key is zeros, and year 0 means no key
abbrev pub no_key : HandKey
no_key = key_of 0 0 0

abbrev pub is_key : HandKey → Bool
is_key k = not (eqb k.year 0)

-- R17.2: a key, or none: beside year 0 no other part stands
abbrev pub is_good : HandKey → Bool
is_good k = is_key k || (eqb k.code 0 && eqb k.hand 0)

-- R17.3: the same in all three
abbrev pub is_same : HandKey → HandKey → Bool
is_same a b = eqb a.code b.code && (eqb a.year b.year && eqb a.hand b.hand)

-- R17.4: by code, then by year, then by hand
abbrev pub is_before : HandKey → HandKey → Bool
is_before a b =
    ltb a.code b.code
    || (eqb a.code b.code && (ltb a.year b.year || (eqb a.year b.year && ltb a.hand b.hand)))
