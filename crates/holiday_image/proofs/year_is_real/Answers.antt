use Rattle.std.proofs.Common.{◌-◌, arith, refl, sym, ◌∙◌}
use Rattle.holiday_image.proofs.Laws.{month-said, year-no, year-yes}
use Rattle.holiday_image.proofs.Tests.{every_next}
use Rattle.holiday_image.specs.Image.{every}
use Rattle.holiday_image.proofs.year_is_real.Goals as goal

pub loop-month-init : goal.loop-month-init
unfolding every
loop-month-init c = refl

pub loop-month-preserved : goal.loop-month-preserved
loop-month-preserved c =
    let m = month-said _ _ _ _ _ _ _ c.month_bit-at.ensures c.requires.0 c.is_leap-leap.ensures c.month_is_real.ensures in
    every_next _ _ (omega arith) c.loop-month.invariant (sym m ∙ c.if-not-month_is_real.false)

pub returns-then-not-month_is_real : goal.returns-then-not-month_is_real
returns-then-not-month_is_real c =
    let m = month-said _ _ _ _ _ _ _ c.month_bit-at.ensures c.requires.0 c.is_leap-leap.ensures c.month_is_real.ensures in
    year-no _ _ _ (omega arith) (omega arith) (sym m ∙ c.if-not-month_is_real.true)

pub returns : goal.returns
returns c = year-yes _ _ (c.loop-month.month - 1) (omega arith) (omega arith) c.loop-month.invariant
