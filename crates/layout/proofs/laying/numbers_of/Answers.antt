-- `layout::laying::numbers_of`: each word is the number, the set or the flag that it stands for. Assumes nothing.
use Prim.Native.Nat.{ℕ, ◌<◌}
use native.Mathlib.Omega.{arith}
use mathlib.Core.Path.{◌≡◌, ◌∙◌}
use mathlib.Core.List.{[], ◌∷◌}
-- a word that is a number, and is below k
use Rattle.layout.proofs.laying.numbers_of.Goals as goal

low : {r n k : ℕ} → r ≡ n → r < k → n < k
low e h = omega (arith, e, h)

pub returns : goal.returns
returns c = record {
  value = λ i.
      c.word_of.ensures i
      ∷ c.word_of-2.ensures i
      ∷ (c.word_of_byte.ensures.value ∙ c.number.ensures) i
      ∷ (c.word_of_byte-2.ensures.value ∙ c.number-2.ensures) i
      ∷ c.word_of_set.ensures.value i
      ∷ c.word_of_set-2.ensures.value i
      ∷ c.word_of_set-3.ensures.value i
      ∷ c.word_of_set-4.ensures.value i
      ∷ c.word_of-3.ensures i
      ∷ c.word_of-4.ensures i
      ∷ c.word_of_byte-3.ensures.value i
      ∷ c.word_of_byte-4.ensures.value i
      ∷ c.word_of_byte-5.ensures.value i
      ∷ c.word_of_flag.ensures i
      ∷ c.word_of_flag-2.ensures i
      ∷ c.word_of_flag-3.ensures i
      ∷ c.word_of_byte-6.ensures.value i
      ∷ c.word_of-5.ensures i
      ∷ c.word_of_card.ensures.value i
      ∷ c.word_of_card-2.ensures.value i
      ∷ c.word_of_card-3.ensures.value i
      ∷ c.word_of_card-4.ensures.value i
      ∷ c.word_of_card-5.ensures.value i
      ∷ c.word_of-6.ensures i
      ∷ [];
  fits = record {
    active = low c.word_of_set.ensures.value c.word_of_set.ensures.low;
    all_in = low c.word_of_set-2.ensures.value c.word_of_set-2.ensures.low;
    start = low c.word_of_set-3.ensures.value c.word_of_set-3.ensures.low;
    owing = low c.word_of_set-4.ensures.value c.word_of_set-4.ensures.low;
    total = low c.word_of_byte-3.ensures.value c.word_of_byte-3.ensures.low;
    raise = low c.word_of_byte-4.ensures.value c.word_of_byte-4.ensures.low;
    force = low c.word_of_byte-5.ensures.value c.word_of_byte-5.ensures.low;
    cap = low c.word_of_byte-6.ensures.value c.word_of_byte-6.ensures.low;
    cards = c.word_of_card.ensures.fits.0;
    card0 = low c.word_of_card.ensures.value c.word_of_card.ensures.fits.1;
    card1 = low c.word_of_card-2.ensures.value c.word_of_card-2.ensures.fits.1;
    card2 = low c.word_of_card-3.ensures.value c.word_of_card-3.ensures.fits.1;
    card3 = low c.word_of_card-4.ensures.value c.word_of_card-4.ensures.fits.1;
    card4 = low c.word_of_card-5.ensures.value c.word_of_card-5.ensures.fits.1;
  };
}
