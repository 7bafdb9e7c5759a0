-- The fold in place: what it stores makes of the lists that stood there the lists with the fold's table laid. Assumes nothing.
use Prim.Native.Nat.{ℕ, ◌<◌, ◌≤◌}
use native.Mathlib.Omega.{arith}
use mathlib.Core.Path.{◌≡◌, refl, sym, subst, ◌∙◌}
use mathlib.Core.Bool.{true, false}
use mathlib.Core.List.{List}
use lib.ListN.{set, length}
use lib.Ieee.{Float}
use Rattle.floats.specs.Helpers.{zerof}
use Rattle.refusals.specs.declared.Refusal.TheVariants.{Added}
use Rattle.refusals.specs.declared.AddedError.TheVariants.{BadRecord}
use Rattle.seats.specs.Bits.{without}
use Rattle.rounds.specs.declared.walking.Reached.{Reached}
use Rattle.rounds.specs.Walk.{walk_of}
use Rattle.table.specs.declared.GameState.{GameState}
use Rattle.table.specs.Answers.{refused}
use Rattle.table.specs.Pay.{turn_after, folded_step, fold_of}
use Rattle.table.specs.Sound.{sound_of}
use Rattle.table.proofs.LawsSound.{sound-of, fold-sound}
use Rattle.table.proofs.Sound.{Sound, sound}
use Rattle.layout.specs.Fits.{Fits}
use Rattle.layout.specs.Laid.{numbers_of, laid_numbers, laid_floats}
use Rattle.layout.specs.Places.{PLAYER_ACTIVE, NEEDS_ACTION, TO_ACT_IDX, ROUND_LENGTH, PASSED, ADDED, NUMBERS, PAID, FLOATS}
use Rattle.layout.specs.Standing.{sound_in, table_at, words_fit}
use Rattle.layout.specs.Words.{word_at, set_at, word_of}
use Rattle.layout.proofs.LawsStores.{Over, number_store, numbers_are, added-fits, numbers_stand, paid-alone, fits-there}
use Rattle.peatcloak.specs.Calls.{stepped}
use Rattle.peatcloak.proofs.LawsBet.{sound-there}
use Rattle.peatcloak.proofs.LawsCalls.{Answered, step-laid}

-- ---- the fold by the test of the record
module _ (t : GameState) where
  fold_done : sound_of t ≡ true → folded_step t ≡ fold_of t
  unfolding fold_of
  fold_done s = rw s

  pub fold-bad : sound_of t ≡ false → refused (Added BadRecord) t ≡ fold_of t
  unfolding fold_of
  fold-bad s = rw s

module _ (fs : List Float) (ns : List ℕ) where
  abbrev t : GameState
  t = table_at fs ns

  -- who then is active, who owes, where the walk comes to, and the table
  abbrev active : ℕ
  active = without (set_at ns PLAYER_ACTIVE) (word_at ns TO_ACT_IDX)

  abbrev owed : ℕ
  owed = without (set_at ns NEEDS_ACTION) (word_at ns TO_ACT_IDX)

  abbrev turn : Reached
  turn = turn_after t owed

  abbrev u : GameState
  u = (folded_step t).table

  -- ---- on a sound table
  module _ (long : FLOATS ≤ length fs) (longs : NUMBERS ≤ length ns) (fit : words_fit ns ≡ true) (s : sound_in ns ≡ true) where
    stood : Sound t
    stood = sound t (sound-there fs ns s)

    abbrev fs' : List Float
    fs' = set fs PAID zerof

    floats_laid_lem : fs' ≡ laid_floats u zerof fs
    floats_laid_lem = paid-alone fs ns u zerof long refl refl refl refl refl refl

    abbrev ns' : List ℕ
    ns' = set (set (set (set ns PLAYER_ACTIVE active) NEEDS_ACTION owed) TO_ACT_IDX (word_of turn.seat)) PASSED (word_of turn.passed)

    numbers-laid : ns' ≡ laid_numbers u turn.passed ns
    numbers-laid =
        let more = number_store ns in
        let start = numbers_stand fs ns fit stood turn.passed longs in
        let v : Over 0 ADDED (numbers_of u turn.passed) ns ns' = more _ _ PASSED (word_of turn.passed) (omega arith)
        (more _ _ TO_ACT_IDX (word_of turn.seat) (omega arith)
        (more _ _ NEEDS_ACTION owed (omega arith) (more _ _ PLAYER_ACTIVE active (omega arith) start))) in
        numbers_are u turn.passed ns ns' longs v (added-fits ns fit) refl

    -- ---- what it gives is in the range of its types, and sound
    folded_fits : active < 65536 → owed < 65536 → Fits u
    folded_fits low owes =
        let f = fits-there fs ns in
        let l = f.lists in
        let n = f.numbers in
        record {
          lists = record { stacks = l.stacks; starting = l.starting; bets = l.bets; won = l.won; round-bets = l.round-bets };
          numbers = record {
            active = low;
            all_in = n.all_in;
            start = n.start;
            owing = owes;
            total = n.total;
            raise = n.raise;
            force = n.force;
            cap = n.cap;
            cards = n.cards;
            card0 = n.card0;
            card1 = n.card1;
            card2 = n.card2;
            card3 = n.card3;
            card4 = n.card4;
          };
          added = f.added;
        }

    folded : active < 65536 → owed < 65536 → Answered fs ns (stepped (fold_of t)) 0 fs' ns'
    folded low owes =
        step-laid fs ns (fold_of t) turn.passed u fs' ns' long longs (fold_done t (sound-there fs ns s)) (sound-of u (fold-sound t stood)) (folded_fits low owes) floats_laid_lem numbers-laid

    -- the same of what the code reads, and of the words that it stores
    pub fold-stored : (i n b d a o p q x y : ℕ) (w : Reached)
        → i ≡ word_at ns TO_ACT_IDX
        → n ≡ word_at ns ROUND_LENGTH
        → b ≡ set_at ns PLAYER_ACTIVE
        → a ≡ without b i
        → d ≡ set_at ns NEEDS_ACTION
        → o ≡ without d i
        → w ≡ walk_of o n i
        → (p ≡ a) × (p < 65536)
        → (q ≡ o) × (q < 65536)
        → x ≡ word_of w.seat
        → y ≡ word_of w.passed
        → Answered fs ns (stepped (fold_of t)) 0 fs' (set (set (set (set ns PLAYER_ACTIVE p) NEEDS_ACTION q) TO_ACT_IDX x) PASSED y)
    fold-stored i n b d a o p q x y w seat seats was leaves owing rids walked stays owes turns passes =
        let ends : p ≡ active = stays.0 ∙ leaves ∙ λ z. without (was z) (seat z) in
        let left : o ≡ owed = rids ∙ λ z. without (owing z) (seat z) in
        let reached : w ≡ turn = walked ∙ λ z. walk_of (left z) (seats z) (seat z) in
        let same : set (set (set (set ns PLAYER_ACTIVE p) NEEDS_ACTION q) TO_ACT_IDX x) PASSED y ≡ ns' = λ z.
        set (set (set (set ns PLAYER_ACTIVE (ends z)) NEEDS_ACTION ((owes.0 ∙ left) z)) TO_ACT_IDX ((turns ∙ λ k. word_of (reached k).seat) z)) PASSED ((passes ∙ λ k. word_of (reached k).passed) z) in
        let below : (k m : ℕ) → k ≡ m → k < 65536 → m < 65536 = λ k m e h. omega (arith, e, h) in
        subst (λ (ms : List ℕ). Answered fs ns (stepped (fold_of t)) 0 fs' ms) (sym same) (folded (below p active ends stays.1) (below q owed (owes.0 ∙ left) owes.1))
