-- `date_answers::iso_week` meets its contract: a date that exists has a day, which has its week.
use Rattle.std.proofs.Common.{◌∙◌, sym}
use Rattle.std.proofs.lemmas.Result.{err_from_is_err_and}
use Rattle.days.specs.DayOf.{day_of}
use Rattle.dates.specs.Answers.{day_answer}
use Rattle.date_answers.specs.Answers.{week_answer}
use Rattle.dates.proofs.There.{answered-ok, answered-err}
use Rattle.date_answers.proofs.iso_week.Goals as goal

pub returns-in_err-day : goal.returns-in_err-day
unfolding week_answer day_answer
returns-in_err-day c =
    let p = err_from_is_err_and c.from_residual.result c.from_residual.ensures.1 in
    rw (p.1, p.2) (answered-err _ _ _ _ (sym c.day_at.ensures ∙ c.in_err-day.was))

pub returns : goal.returns
unfolding week_answer day_answer day_of
returns c =
    let t = answered-ok _ _ _ (sym c.day_at.ensures ∙ c.in_ok-day.was) in
    rw (← t.0, t.1)
