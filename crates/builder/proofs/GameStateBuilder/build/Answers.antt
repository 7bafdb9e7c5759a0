-- `builder::GameStateBuilder::build`: each case of the verdict. Assumes nothing.
use mathlib.Core.Path.{sym, ◌∙◌}
use Rattle.builder.specs.Build.{build_of}
use Rattle.builder.proofs.GameStateBuilder.build.Goals as goal

pub returns-in-Ok : goal.returns-in-Ok
unfolding build_of
returns-in-Ok c =
    simp (sym c.built-table.ensures, sym c.is_sound.ensures, sym c.verdict.ensures ∙ c.in-Ok.is)

pub returns-in-Err : goal.returns-in-Err
unfolding build_of
returns-in-Err c =
    simp (sym c.built-table.ensures, sym c.is_sound.ensures, sym c.verdict.ensures ∙ c.in-Err.is, c.none.ensures)
