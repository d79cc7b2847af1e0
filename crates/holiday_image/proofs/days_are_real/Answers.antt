use Rattle.std.proofs.Common.{◌≡◌, ◌+◌, ◌-◌, arith, sym, ◌∙◌}
use Rattle.holiday_image.proofs.Laws.{kth-said, days-no, days-yes}
use Rattle.holiday_image.proofs.Tests.{every_more}
use Rattle.holiday_image.specs.Image.{every}
use Rattle.holiday_image.proofs.days_are_real.Goals as goal

pub loop-year-init : goal.loop-year-init
unfolding every
loop-year-init c = let e : c.of-years.result.first - c.of-years.result.first ≡ 0 = omega arith in rw e

pub loop-year-preserved : goal.loop-year-preserved
loop-year-preserved c =
    let f = c.of-years.result.first in
    let e : c.loop-year.year + 1 - f ≡ c.loop-year.year - f + 1 = omega arith in
    let k = kth-said _ _ _ _ c.of-years.ensures.first_is c.loop-year.auto.year c.year_is_real.ensures in
    rw e (every_more _ _ c.loop-year.invariant (sym k ∙ c.if-not-year_is_real.false))

pub returns-then-not-year_is_real : goal.returns-then-not-year_is_real
returns-then-not-year_is_real c =
    let k = kth-said _ _ _ _ c.of-years.ensures.first_is c.loop-year.auto.year c.year_is_real.ensures in
    days-no _ _ _ c.of-years.ensures.count_is (omega arith) (omega arith) (sym k ∙ c.if-not-year_is_real.true)

pub returns : goal.returns
returns c = days-yes _ (c.loop-year.year - c.of-years.result.first) _ c.of-years.ensures.count_is (omega arith) (omega arith) c.loop-year.invariant
