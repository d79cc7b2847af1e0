-- The slots are judged from the lowest, so the first that fails is named.
use Rattle.std.proofs.Common.{sym, ◌∙◌}
use Rattle.std.proofs.lemmas.Result.{err_from_is_err_and}
use Rattle.holidays.specs.Answers.{slot_answer, slots_answer}
use Rattle.holidays.proofs.CheckLaws.{slot-passed, slot-refused}
use Rattle.holidays.proofs.check_slots.Goals as goal

pub returns-in_err-check_slot : goal.returns-in_err-check_slot
unfolding slots_answer
returns-in_err-check_slot c =
    let p = err_from_is_err_and c.from_residual.result c.from_residual.ensures.1 in
    rw (p.1, p.2, ← c.images.view_is) (slot-refused _ _ _ _ (sym c.check_slot.ensures ∙ c.in_err-check_slot.was))

pub returns-in_err-check_slot-2 : goal.returns-in_err-check_slot-2
unfolding slots_answer
returns-in_err-check_slot-2 c =
    let r = c.from_residual-in_err-check_slot-2 in
    let p = err_from_is_err_and r.result r.ensures.1 in
    rw (p.1, p.2, ← c.images.view_is, slot-passed _ _ _ (sym c.check_slot.ensures ∙ c.in_ok-check_slot.was))
    (slot-refused _ _ _ _ (sym c.check_slot-2.ensures ∙ c.in_err-check_slot-2.was))

pub returns-in_err-check_slot-3 : goal.returns-in_err-check_slot-3
unfolding slots_answer
returns-in_err-check_slot-3 c =
    let r = c.from_residual-in_err-check_slot-3 in
    let p = err_from_is_err_and r.result r.ensures.1 in
    rw (
      p.1,
      p.2,
      ← c.images.view_is,
      slot-passed _ _ _ (sym c.check_slot.ensures ∙ c.in_ok-check_slot.was),
      slot-passed _ _ _ (sym c.check_slot-2.ensures ∙ c.in_ok-check_slot-2.was),
    )
    (slot-refused _ _ _ _ (sym c.check_slot-3.ensures ∙ c.in_err-check_slot-3.was))

pub returns : goal.returns
unfolding slot_answer slots_answer
returns c =
    rw (
      c.check_slot-4.ensures,
      ← c.images.view_is,
      slot-passed _ _ _ (sym c.check_slot.ensures ∙ c.in_ok-check_slot.was),
      slot-passed _ _ _ (sym c.check_slot-2.ensures ∙ c.in_ok-check_slot-2.was),
      slot-passed _ _ _ (sym c.check_slot-3.ensures ∙ c.in_ok-check_slot-3.was),
    )
