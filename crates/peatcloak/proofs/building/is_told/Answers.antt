-- `peatcloak::building::is_told`: the room, and each test in its place. Assumes nothing.
use mathlib.Core.Bool.{◌&&◌, ◌||◌, not}
use lib.ListN.{length}
use Rattle.peatcloak.specs.Building.{room_to_build}
use Rattle.peatcloak.proofs.building.is_told.Goals as goal

pub returns : goal.returns
unfolding room_to_build
returns c =
    let a = c.args in
    λ i. room_to_build a.floats (length a.numbers.now) a.amounts (length a.given.now) && (c.given_fit.ensures i && (not (c.flag_at.ensures i) || c.stands.ensures i))
