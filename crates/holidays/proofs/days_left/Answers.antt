-- The mask of as many ones as days are left keeps just their bits.
use native.Mathlib.Omega.{arith}
use Rattle.holidays.proofs.BitLaws.{mask-pos, masked}
use Rattle.holidays.proofs.days_left.Goals as goal

pub overflow_sub-result-2 : goal.overflow_sub-result-2
overflow_sub-result-2 c = mask-pos _ (omega arith)

pub returns : goal.returns
returns c = masked _ _ _ _ c.requires.1 c.month_days-days.ensures
