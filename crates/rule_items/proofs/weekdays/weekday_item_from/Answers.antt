-- By the tag, which has two meanings and one bit.
use native.Mathlib.Omega.{arith}
use Rattle.bits.proofs.ReadLaws.{tag-read, no-tag, left, further}
use Rattle.rule_items.specs.Weekdays.{weekday_form, weekday_item_at}
use Rattle.rule_items.proofs.ItemLaws.{weekday-form-stays, one_left}
use Rattle.rule_items.proofs.weekdays.weekday_item_from.Goals as goal

pub returns-in_err-tag : goal.returns-in_err-tag
unfolding weekday_item_at
returns-in_err-tag c = left _ _ _ _ _ c.from_residual.ensures.1 (no-tag (weekday_form _) _ 1 1 1 (omega arith) _ (weekday-form-stays _) _ c.in_err-tag.ensures)

pub returns-in-0 : goal.returns-in-0
unfolding weekday_item_at
returns-in-0 c =
    further _ _ _ _ _ _ _ c.fixed_weekdays.ensures (tag-read (weekday_form _) _ 1 1 1 (omega arith) _ _ c.in_ok-tag.ensures 0 c.in-0.is (omega arith))
    (omega (arith, c.in_ok-tag.ensures.near))

pub returns-in_default : goal.returns-in_default
unfolding weekday_item_at
returns-in_default c =
    further _ _ _ _ _ _ _ c.holiday.ensures (tag-read (weekday_form _) _ 1 1 1 (omega arith) _ _ c.in_ok-tag.ensures 1 (one_left _ c.in_ok-tag.ensures.top (omega arith)) (omega arith))
    (omega (arith, c.in_ok-tag.ensures.near))
