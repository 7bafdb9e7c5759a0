-- Good order does not hang on the key of the hand: with another good key a table is in good order exactly if it was. Assumes nothing.
use mathlib.Core.Path.{◌≡◌}
use mathlib.Core.Bool.{true}
use mathlib.Core.List.{◌∷◌}
use lib.ListN.{drop}
use Rattle.commons.specs.Tests.{all_of}
use Rattle.keys.specs.declared.HandKey.{HandKey}
use Rattle.keys.specs.Keys.{is_good}
use Rattle.table.specs.declared.GameState.{GameState}
use Rattle.table.specs.Added.{good_added}
use Rattle.table.proofs.LawsKey.{rekeyed, sound_apart}
use Rattle.order.specs.GoodOrder.{good_tests, in_good_order}

pub order_apart : (t : GameState) (k : HandKey) → good_added t.added ≡ true → is_good k ≡ true → in_good_order (rekeyed k t) ≡ in_good_order t
unfolding in_good_order
order_apart t k g h = λ i. all_of (sound_apart t k g h i ∷ drop 1 (good_tests t))
