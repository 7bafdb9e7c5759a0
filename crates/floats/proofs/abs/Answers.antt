-- `floats::abs`: each arm by the sign that its test found. Assumes nothing.
use Rattle.floats.proofs.Laws.{abs_negative, abs_positive}
use Rattle.floats.proofs.abs.Goals as goal

pub returns-then-is_sign_negative : goal.returns-then-is_sign_negative
returns-then-is_sign_negative c = abs_negative _ (cc)

pub returns-else-is_sign_negative : goal.returns-else-is_sign_negative
returns-else-is_sign_negative c = abs_positive _ (cc)
