-- By the tag; where it has no meaning, it is refused for that.
use native.Mathlib.Omega.{arith}
use Rattle.bits.proofs.ReadLaws.{tag-read, tag-refused, no-tag, left, found_refused, further}
use Rattle.rule_items.specs.Dates.{date_form, date_at}
use Rattle.rule_items.proofs.ItemLaws.{date-form-stays}
use Rattle.rule_items.proofs.dates.date_from.Goals as goal

pub returns-in_err-tag : goal.returns-in_err-tag
unfolding date_at
returns-in_err-tag c = left _ _ _ _ _ c.from_residual.ensures.1 (no-tag (date_form _) _ 2 2 3 (omega arith) _ (date-form-stays _) _ c.in_err-tag.ensures)

pub returns-in-0 : goal.returns-in-0
unfolding date_at
returns-in-0 c =
    further _ _ _ _ _ _ _ c.fixed_date.ensures (tag-read (date_form _) _ 2 2 3 (omega arith) _ _ c.in_ok-tag.ensures 0 c.in-0.is (omega arith))
    (omega (arith, c.in_ok-tag.ensures.near))

pub returns-in-1 : goal.returns-in-1
unfolding date_at
returns-in-1 c =
    further _ _ _ _ _ _ _ c.nth_date.ensures (tag-read (date_form _) _ 2 2 3 (omega arith) _ _ c.in_ok-tag.ensures 1 c.in-1.is (omega arith))
    (omega (arith, c.in_ok-tag.ensures.near))

pub returns-in-2 : goal.returns-in-2
unfolding date_at
returns-in-2 c =
    further _ _ _ _ _ _ _ c.easter_date.ensures (tag-read (date_form _) _ 2 2 3 (omega arith) _ _ c.in_ok-tag.ensures 2 c.in-2.is (omega arith))
    (omega (arith, c.in_ok-tag.ensures.near))

pub returns-in_default : goal.returns-in_default
unfolding date_at
returns-in_default c = found_refused _ _ _ _ (tag-refused (date_form _) _ 2 2 3 (omega arith) _ (date-form-stays _) _ c.in_ok-tag.ensures (omega arith))
