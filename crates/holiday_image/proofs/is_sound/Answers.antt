-- Less than three bytes are sound only if there are none; else form, fill and days are judged in turn.
use Rattle.std.proofs.Common.{arith, sym, ◌∙◌}
use Rattle.holiday_image.proofs.Laws.{short, formed, formless, unfilled, judged}
use Rattle.holiday_image.proofs.is_sound.Goals as goal

pub returns-then-image-lt3 : goal.returns-then-image-lt3
returns-then-image-lt3 c = c.is_empty.ensures ∙ short _ c.if-image-lt3.true

pub returns-then-not-has_form : goal.returns-then-not-has_form
returns-then-not-has_form c = formless _ (omega arith) (sym c.has_form.ensures ∙ c.if-not-has_form.true)

pub fill_is_zero-requires : goal.fill_is_zero-requires
fill_is_zero-requires c = formed _ (sym c.has_form.ensures ∙ c.if-not-has_form.false)

pub days_are_real-requires : goal.days_are_real-requires
days_are_real-requires c = formed _ (sym c.has_form.ensures ∙ c.if-not-has_form.false)

pub returns-then-fill_is_zero : goal.returns-then-fill_is_zero
returns-then-fill_is_zero c =
    c.days_are_real.ensures
    ∙ judged _ (omega arith) (sym c.has_form.ensures ∙ c.if-not-has_form.false) (sym c.fill_is_zero.ensures ∙ c.if-fill_is_zero.true)

pub returns-else-fill_is_zero : goal.returns-else-fill_is_zero
returns-else-fill_is_zero c =
    c.if-fill_is_zero.false
    ∙ unfilled _ (omega arith) (sym c.has_form.ensures ∙ c.if-not-has_form.false) (sym c.fill_is_zero.ensures ∙ c.if-fill_is_zero.false)
