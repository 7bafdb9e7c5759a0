-- What a build is told in `given`. A table that is built has the key that is told there, and none where none is told (`built-key`); and from GIVEN_FREE on no
-- word is read: lists of one length that agree below it build the same (`build_unread`). Assumes nothing.
use Prim.Native.Nat.{ℕ, ◌<◌, ◌%◌}
use native.Mathlib.Omega.{arith}
use mathlib.Core.Path.{◌≡◌}
use mathlib.Core.Bool.{cond, not, ◌&&◌, ◌||◌}
use mathlib.Core.List.{List, [], ◌∷◌}
use lib.Dec.{eqb, ltb}
use lib.ListN.{length}
use lib.Ieee.{Float}
use Rattle.std.specs.Bool.{then_some}
use Rattle.commons.specs.Tests.{all_of}
use Rattle.commons.proofs.Bools.{pick}
use Rattle.refusals.proofs.Rows.{stands-at-zero}
use Rattle.keys.specs.Keys.{key_of, no_key}
use Rattle.table.specs.Added.{added_of}
use Rattle.builder.specs.Build.{build_of}
use Rattle.builder.specs.Setters.{builder_of}
use Rattle.builder.proofs.LawsKey.{build-carries}
use Rattle.layout.specs.Outcome.{Outcome}
use Rattle.layout.specs.Places.{GIVEN_STACKS, GIVEN_BIG_BLIND, GIVEN_SMALL_BLIND, GIVEN_ANTE, GIVEN_DEALER, GIVEN_DEALER_IS, GIVEN_CAP, GIVEN_CAP_CAPS, GIVEN_CAP_IS, GIVEN_ROUND, GIVEN_ROUND_IS, GIVEN_BOARD, GIVEN_HANDS, GIVEN_HANDS_ARE, GIVEN_PLAYER_BET, GIVEN_ROUND_DATA, GIVEN_KEY, GIVEN_KEY_CODE, GIVEN_KEY_YEAR, GIVEN_KEY_HAND, GIVEN_FREE, AMOUNT_BIG_BLIND, AMOUNT_SMALL_BLIND, AMOUNT_ANTE}
use Rattle.layout.specs.Standing.{room_for, words_fit}
use Rattle.layout.specs.Words.{word_at, round_of, float_at}
use Rattle.peatcloak.specs.Building.{room_to_build, tells, amounts_given, board_given, data_given, builder_at, given_fit, built, build_on}
use Rattle.peatcloak.specs.Calls.{nothing_there}
use Rattle.peatcloak.specs.GivenAdded.{key_given, added_given}

module _ (fs : List Float) (ns : List ℕ) (stacks bets : List Float) (board : List ℕ) (amounts : List Float) where
  -- ---- the key of a table that is built
  pub built-key : (gs : List ℕ) → (build_on fs ns stacks bets board amounts gs).number ≡ 0 → (build_on fs ns stacks bets board amounts gs).table.added ≡ added_given gs
  built-key gs =
      let b = builder_at fs ns stacks bets board amounts gs in
      pick (λ (o : Outcome). o.number ≡ 0 → o.table.added ≡ added_given gs) (room_to_build (length fs) (length ns) (length amounts) (length gs) && tells (length fs) ns gs)
      (built (build_of b)) (nothing_there fs ns) (λ z. build-carries b (stands-at-zero (build_of b).answer z)) (λ z. absurd (omega (arith, z)))

  -- ---- lists that agree below GIVEN_FREE
  module _ (gs hs : List ℕ) (e : (j : ℕ) → j < GIVEN_FREE → word_at hs j ≡ word_at gs j) where
    key_unread : key_given hs ≡ key_given gs
    unfolding key_given
    key_unread =
        λ z. cond (eqb (e GIVEN_KEY (omega arith) z) 1) (key_of (e GIVEN_KEY_CODE (omega arith) z % 65536) (e GIVEN_KEY_YEAR (omega arith) z % 65536) (e GIVEN_KEY_HAND (omega arith) z)) no_key

    builder_unread : builder_at fs ns stacks bets board amounts hs ≡ builder_at fs ns stacks bets board amounts gs
    builder_unread =
        λ z.
        builder_of
        (amounts_given (eqb (e GIVEN_STACKS (omega arith) z) 1) stacks)
        (then_some (eqb (e GIVEN_BIG_BLIND (omega arith) z) 1) (float_at amounts AMOUNT_BIG_BLIND))
        (then_some (eqb (e GIVEN_SMALL_BLIND (omega arith) z) 1) (float_at amounts AMOUNT_SMALL_BLIND))
        (then_some (eqb (e GIVEN_ANTE (omega arith) z) 1) (float_at amounts AMOUNT_ANTE))
        (then_some (eqb (e GIVEN_DEALER (omega arith) z) 1) (e GIVEN_DEALER_IS (omega arith) z))
        (then_some (eqb (e GIVEN_CAP (omega arith) z) 1) (record { capped = eqb (e GIVEN_CAP_CAPS (omega arith) z) 1; value = e GIVEN_CAP_IS (omega arith) z % 256 }))
        (then_some (eqb (e GIVEN_ROUND (omega arith) z) 1) (round_of (e GIVEN_ROUND_IS (omega arith) z)))
        (board_given (eqb (e GIVEN_BOARD (omega arith) z) 1) board)
        (then_some (eqb (e GIVEN_HANDS (omega arith) z) 1) (e GIVEN_HANDS_ARE (omega arith) z))
        (amounts_given (eqb (e GIVEN_PLAYER_BET (omega arith) z) 1) bets)
        (data_given (eqb (e GIVEN_ROUND_DATA (omega arith) z) 1) fs ns)
        (added_of (key_unread z))

    given-untested : given_fit hs ≡ given_fit gs
    unfolding given_fit
    given-untested =
        λ z.
        all_of
        (ltb (e GIVEN_STACKS (omega arith) z) 2
        ∷ ltb (e GIVEN_BIG_BLIND (omega arith) z) 2
        ∷ ltb (e GIVEN_SMALL_BLIND (omega arith) z) 2
        ∷ ltb (e GIVEN_ANTE (omega arith) z) 2
        ∷ ltb (e GIVEN_DEALER (omega arith) z) 2
        ∷ ltb (e GIVEN_CAP (omega arith) z) 2
        ∷ ltb (e GIVEN_CAP_CAPS (omega arith) z) 2
        ∷ ltb (e GIVEN_CAP_IS (omega arith) z) 256
        ∷ ltb (e GIVEN_ROUND (omega arith) z) 2
        ∷ ltb (e GIVEN_ROUND_IS (omega arith) z) 12
        ∷ ltb (e GIVEN_BOARD (omega arith) z) 2
        ∷ ltb (e GIVEN_HANDS (omega arith) z) 2
        ∷ ltb (e GIVEN_PLAYER_BET (omega arith) z) 2
        ∷ ltb (e GIVEN_ROUND_DATA (omega arith) z) 2
        ∷ all_of (ltb (e GIVEN_KEY (omega arith) z) 2 ∷ ltb (e GIVEN_KEY_CODE (omega arith) z) 65536 ∷ ltb (e GIVEN_KEY_YEAR (omega arith) z) 65536 ∷ [])
        ∷ [])

    pub build_unread : length hs ≡ length gs → build_on fs ns stacks bets board amounts hs ≡ build_on fs ns stacks bets board amounts gs
    build_unread l =
        λ z.
        cond
        (room_to_build (length fs) (length ns) (length amounts) (l z)
        && (given-untested z && (not (eqb (e GIVEN_ROUND_DATA (omega arith) z) 1) || (room_for (length fs) (length ns) && words_fit ns))))
        (built (build_of (builder_unread z))) (nothing_there fs ns)
