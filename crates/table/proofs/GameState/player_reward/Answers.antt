-- `table::GameState::player_reward`: each return by its tests; a seat of a sound record is a place of each list. Assumes nothing.
use mathlib.Core.Path.{sym, ◌∙◌}
use native.Mathlib.Omega.{arith}
use borrow.Author.Tests.{lt-ltb, le-ltb}
use Rattle.table.specs.Pay.{reward_of}
use Rattle.table.proofs.Sound.{passed}
use Rattle.table.proofs.GameState.player_reward.Goals as goal

pub offset_bounds-stacks-player_idx : goal.offset_bounds-stacks-player_idx
offset_bounds-stacks-player_idx c =
    omega (arith, (passed c.args.self _ c.is_sound.ensures c.if-is_sound.true).most)

pub bounds-stacks-player_idx : goal.bounds-stacks-player_idx
bounds-stacks-player_idx c =
    omega (arith, (passed c.args.self _ c.is_sound.ensures c.if-is_sound.true).most)

pub offset_bounds-starting-player_idx : goal.offset_bounds-starting-player_idx
offset_bounds-starting-player_idx c =
    omega (arith, (passed c.args.self _ c.is_sound.ensures c.if-is_sound.true).most)

pub bounds-starting-player_idx : goal.bounds-starting-player_idx
bounds-starting-player_idx c =
    omega (arith, (passed c.args.self _ c.is_sound.ensures c.if-is_sound.true).most)

pub returns-then-player_idx-self : goal.returns-then-player_idx-self
unfolding reward_of
returns-then-player_idx-self c =
    simp (sym c.is_sound.ensures ∙ c.if-is_sound.true, lt-ltb _ _ c.if-player_idx-self.true)

pub returns-then-is_sound : goal.returns-then-is_sound
unfolding reward_of
returns-then-is_sound c =
    simp (sym c.is_sound.ensures ∙ c.if-is_sound.true, le-ltb _ _ c.if-player_idx-self.false)

pub returns : goal.returns
unfolding reward_of
returns c = simp (sym c.is_sound.ensures ∙ c.if-is_sound.false)
