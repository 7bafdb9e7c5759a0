-- Any pair of results that the `ensures` of a public function allows is equal, each by the one law `same`. The checker writes `ended`, the function's
-- signature, and `Learnt`, what a caller learns from its `ensures`. `.ci/functions --check` asks a line for each public function. Assumes nothing.
use denote.RattleType.{RattleType}
use denote.Param.Laws.{Laws, IsCopy}
use mir.Syntax.{Dict}
use Rattle.std.specs.declared.clone.Clone.{Ghosts}
use Rattle.commons.proofs.OneResult.{OneResult, same, only, past}
use Rattle.commons.proofs as crate
use Rattle.commons.specs.contracts as promised

-- of any type, at a value of which the definition is asked
pub copying_copy : (T : RattleType) (l : Laws T) (c : IsCopy T) (g : Ghosts T.Denot) (i : Dict) (d : T.Denot) → OneResult (promised.copying.copy.ended T g i) (crate.copying.copy.Reads.Learnt T l c g i)
copying_copy T l c g i d κs a x y = past (only (λ p q. same (p d) (q d)))

pub comparing_stands-at : OneResult promised.comparing.stands_at.ended crate.comparing.stands_at.Reads.Learnt
comparing_stands-at κs a x y = only same
