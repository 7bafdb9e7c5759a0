-- The bet of round data, case by case. Assumes nothing.
use mathlib.Core.Path.{◌≡◌, sym}
use mathlib.Core.Bool.{Bool, true, false}
use lib.Ieee.{Float}
use Rattle.refusals.specs.declared.Refusal.TheVariants.{Added}
use Rattle.refusals.specs.declared.AddedError.TheVariants.{BadRecord, CounterFull}
use Rattle.rounds.specs.declared.RoundData.{RoundData}
use Rattle.rounds.specs.Paying.{is_full}
use Rattle.rounds.specs.Sound.{sound_data}
use Rattle.rounds.specs.Steps.{done, refused, stake_in, pays_of, bet_of}

-- ok is what the soundness test gave, f what the counters' test gave
module _ (d : RoundData) (x : Float) (forced ok : Bool) (test : ok ≡ sound_data d) where
  pub bad : ok ≡ false → refused (Added BadRecord) d ≡ bet_of d x forced
  unfolding bet_of
  bad h = rw (sym test, h)

  module _ (h : ok ≡ true) (f : Bool) (counted : f ≡ is_full (stake_in d) x forced) where
    pub full : f ≡ true → refused (Added CounterFull) d ≡ bet_of d x forced
    unfolding bet_of
    full g = rw (sym test, h, sym counted, g)

    pub paid : f ≡ false → done 0 (pays_of d x forced) ≡ bet_of d x forced
    unfolding bet_of
    paid g = rw (sym test, h, sym counted, g)
