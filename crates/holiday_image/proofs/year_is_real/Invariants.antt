-- The months before `month` have been judged; each of the twelve lies within the image.
use Rattle.std.proofs.Common.{◌≡◌, ◌-◌, true}
use Rattle.holiday_image.specs.Image.{every, real_month}
use Rattle.holiday_image.proofs.year_is_real.Given as goal

abbrev pub invariant-loop-month : goal.invariant-loop-month
invariant-loop-month l = every (real_month l.image l.year) (l.month - 1) ≡ true
