-- `date_answers::weekday` meets its contract: a date that exists has a number.
use Rattle.std.proofs.Common.{◌∙◌, sym}
use Rattle.std.proofs.lemmas.Result.{err_from_is_err_and}
use Rattle.date_answers.specs.Answers.{weekday_answer}
use Rattle.dates.proofs.There.{answered-ok, answered-err}
use Rattle.date_answers.proofs.weekday.Goals as goal

pub returns-in_err-number : goal.returns-in_err-number
unfolding weekday_answer
returns-in_err-number c =
    let p = err_from_is_err_and c.from_residual.result c.from_residual.ensures.1 in
    rw (p.1, p.2) (answered-err _ _ _ _ (sym c.number_of.ensures.answer ∙ c.in_err-number.was))

pub returns : goal.returns
unfolding weekday_answer
returns c =
    let t = answered-ok _ _ _ (sym c.number_of.ensures.answer ∙ c.in_ok-number.was) in
    rw (c.weekday_of.ensures, ← t.0, t.1)
