-- By the tag, which has two meanings and one bit.
use native.Mathlib.Omega.{arith}
use Rattle.bits.proofs.ReadLaws.{tag-read, no-tag, left, further}
use Rattle.rule_items.specs.Spans.{time_form, time_at}
use Rattle.rule_items.proofs.ItemLaws.{time-form-stays, one_left}
use Rattle.rule_items.proofs.spans.time.Goals as goal

pub returns-in_err-tag : goal.returns-in_err-tag
unfolding time_at
returns-in_err-tag c = left _ _ _ _ _ c.from_residual.ensures.1 (no-tag (time_form _) _ 1 1 1 (omega arith) _ (time-form-stays _) _ c.in_err-tag.ensures)

pub returns-in-0 : goal.returns-in-0
unfolding time_at
returns-in-0 c =
    further _ _ _ _ _ _ _ c.fixed_time.ensures (tag-read (time_form _) _ 1 1 1 (omega arith) _ _ c.in_ok-tag.ensures 0 c.in-0.is (omega arith))
    (omega (arith, c.in_ok-tag.ensures.near))

pub returns-in_default : goal.returns-in_default
unfolding time_at
returns-in_default c =
    further _ _ _ _ _ _ _ c.variable_time.ensures (tag-read (time_form _) _ 1 1 1 (omega arith) _ _ c.in_ok-tag.ensures 1 (one_left _ c.in_ok-tag.ensures.top (omega arith)) (omega arith))
    (omega (arith, c.in_ok-tag.ensures.near))
