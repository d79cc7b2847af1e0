-- The years before `year` have been judged; the years of a sound head lie within the image.
use Rattle.std.proofs.Common.{◌≡◌, ◌-◌, true}
use Rattle.holiday_image.specs.Image.{every, real_kth}
use Rattle.holiday_image.proofs.days_are_real.Given as goal

abbrev pub invariant-loop-year : goal.invariant-loop-year
invariant-loop-year l = every (real_kth l.image) (l.year - l.years.first) ≡ true
