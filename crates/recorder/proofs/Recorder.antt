-- The promises of the recorder: what it records of a script is the hands of the script, each is a hand of the journal, and each, written, read and played again, comes
-- to the table that stood when it was closed, with its key. Assumes nothing.
use Rattle.std.specs.Prelude.{Some, Ok, Err}
use Rattle.table.specs.declared.GameState.{GameState}
use Prim.Native.Nat.{ℕ}
use mathlib.Core.Path.{◌≡◌, refl, sym, ap, ◌∙◌}
use mathlib.Core.Logic.{◌⊎◌, inl, inr}
use mathlib.Core.Bool.{Bool, true, false, cond, not, ◌||◌}
use mathlib.Core.List.{List, map, Memᴰ}
use lib.Dec.{ltb}
use lib.ListN.{length}
use Rattle.refusals.specs.declared.JournalError.TheVariants.{NotKept}
use Rattle.keys.specs.Keys.{no_key, is_key}
use Rattle.script.specs.declared.line.Words.{Words}
use Rattle.script.specs.Split.{lines}
use Rattle.script.specs.Words.{words_of}
use Rattle.console.specs.declared.act.State.{State}
use Rattle.console.specs.Act.{on_table}
use Rattle.console.specs.Play.{at_start}
use Rattle.journal.specs.Hand.{block_count, hand_bytes, writes, reads}
use Rattle.journal.specs.Lines.{spells, lines_of}
use Rattle.journal.specs.Reading.{as_played}
use Rattle.journal.proofs.Hands.{round_trip}
use Rattle.journal.proofs.LawsSpelt.{lines_spell, lines-back}
use Rattle.recorder.specs.Entries.{entries_of, title_of}
use Rattle.recorder.specs.Hands.{opens, Recorded, opened, script_hands}
use Rattle.recorder.specs.Replay.{replayed, replay_of, lines_in, replay_bytes}
use Rattle.recorder.proofs.LawsHands.{Each, every_hand}
use Rattle.recorder.proofs.LawsKeys.{Fitting, none-fits, key_fits}
use Rattle.recorder.proofs.LawsPlaying.{was_read}
use Rattle.recorder.proofs.LawsReplay.{Replays, hands_replay}
use Rattle.recorder.proofs.LawsSpells.{is-hand, comes_back}
use Rattle.recorder.proofs.LawsWords.{Proper, all_proper}

-- ---- a recorded hand is accepted again, line by line, and comes to its table, which has its key
pub recorded_replays : (script : List ℕ) (h : Recorded) → Memᴰ h (script_hands script) → Replays h
recorded_replays script = hands_replay (map words_of (lines script)) at_start.state

-- ---- it is a hand of the journal, whose lines come back as they were typed
record Kept (h : Recorded) : Type 0 where
  fits : Fitting h.key
  spelt : spells (entries_of h.lines) ≡ true
  back : map as_played (lines_of (entries_of h.lines)) ≡ h.lines

opened-kept : (s : State) (w : Words) (ws : List Words) → Fitting s.key → Proper w → Each Proper ws → opens w s ≡ true → Kept (opened s w ws)
opened-kept s w ws f p a e =
    let ok = is-hand s w ws e p a in
    record { fits = f; spelt = lines_spell _ ok; back = ap (map as_played) (lines-back _ ok) ∙ comes_back s w ws e p a }

kept : (script : List ℕ) (h : Recorded) → Memᴰ h (script_hands script) → Kept h
unfolding at_start
kept script = every_hand Proper (λ s. Fitting s.key) Kept (λ w s p f. key_fits w s p f) opened-kept (map words_of (lines script)) at_start.state none-fits (all_proper (lines script))

pub recorded_is_a_hand : (script : List ℕ) (h : Recorded) → Memᴰ h (script_hands script) → spells (entries_of h.lines) ≡ true
recorded_is_a_hand script h m = (kept script h m).spelt

-- so the writer never answers 27 to it
pub recorded_is-written : (script : List ℕ) (h : Recorded) → Memᴰ h (script_hands script)
    → (writes (title_of h.key) (entries_of h.lines) ≡ Err NotKept) ⊎ (writes (title_of h.key) (entries_of h.lines) ≡ Ok (block_count (length (entries_of h.lines))))
unfolding writes
recorded_is-written script h m = rw (recorded_is_a_hand script h m) (by (not (is_key h.key) || ltb 30600 (length (entries_of h.lines))))
  where
    n : ℕ
    n = block_count (length (entries_of h.lines))

    by : (b : Bool) → (cond b (Err NotKept) (Ok n) ≡ Err NotKept) ⊎ (cond b (Err NotKept) (Ok n) ≡ Ok n)
    by true = inl refl
    by false = inr refl

-- ---- script, journal and console: a recorded hand that is written in so many blocks
abbrev pub image_of : Recorded → List ℕ
image_of h = hand_bytes (title_of h.key) (entries_of h.lines)

pub record Returns (h : Recorded) (n : ℕ) : Type 0 where
  pub read : reads (image_of h) ≡ Ok (record { title = title_of h.key; blocks = n; entries = length (entries_of h.lines) })
  pub lines : lines_in (image_of h) ≡ h.lines
  pub table : GameState
  pub stands : h.ended.table ≡ Some table
  pub again : replay_bytes (image_of h) ≡ replayed (Ok tt) (length h.lines) (on_table table no_key)
  pub key : table.added.key ≡ h.key

pub recorded_read_replays : (script : List ℕ) (h : Recorded) → Memᴰ h (script_hands script) → (n : ℕ) → writes (title_of h.key) (entries_of h.lines) ≡ Ok n → Returns h n
recorded_read_replays script h m n e =
    let k = kept script h m in
    let r = recorded_replays script h m in
    let t = round_trip (title_of h.key) (entries_of h.lines) n k.fits e in
    let ls : lines_in (image_of h) ≡ h.lines = ap (λ (ws : List ℕ). map as_played (lines_of ws)) t.1 ∙ k.back in
    record { read = t.0; lines = ls; again = sym (was_read (image_of h) t.0 (sym (ap (replay_of h.key) ls ∙ r.again))); table = r.table; stands = r.stands; key = r.key }
