-- `table::GameState::award`: each return by its tests; a seat of a sound record is a place of each list. Assumes nothing.
use mathlib.Core.Path.{sym, ◌∙◌}
use native.Mathlib.Omega.{arith}
use borrow.Author.Tests.{lt-ltb, le-ltb}
use Rattle.table.specs.Pay.{award_of}
use Rattle.table.proofs.Sound.{passed}
use Rattle.table.proofs.GameState.award.Goals as goal

pub awarded-requires : goal.awarded-requires
awarded-requires c =
    omega (arith, c.if-player_idx-self.true, (passed c.args.self _ c.is_sound.ensures c.if-is_sound.true).most)

pub returns-then-player_idx-self : goal.returns-then-player_idx-self
unfolding award_of
returns-then-player_idx-self c =
    simp (c.awarded.ensures, sym c.is_sound.ensures ∙ c.if-is_sound.true, lt-ltb _ _ c.if-player_idx-self.true)

pub returns-then-is_sound : goal.returns-then-is_sound
unfolding award_of
returns-then-is_sound c =
    simp (sym c.is_sound.ensures ∙ c.if-is_sound.true, le-ltb _ _ c.if-player_idx-self.false)

pub returns : goal.returns
unfolding award_of
returns c = simp (sym c.is_sound.ensures ∙ c.if-is_sound.false)
