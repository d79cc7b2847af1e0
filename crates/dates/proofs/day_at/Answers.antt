-- `dates::day_at` meets its contract: a date that exists has a day.
use Rattle.std.proofs.Common.{arith, ◌∙◌, sym}
use Rattle.std.proofs.lemmas.Result.{err_from_is_err_and}
use Rattle.dates.specs.Answers.{day_answer}
use Rattle.dates.proofs.There.{asked-there, asked-refused}
use Rattle.dates.proofs.day_at.Goals as goal

pub returns-in_err-date : goal.returns-in_err-date
unfolding day_answer
returns-in_err-date c =
    let p = err_from_is_err_and c.from_residual.result c.from_residual.ensures.1 in
    rw (p.1, p.2) (asked-refused _ _ _ (sym c.existing.ensures ∙ c.in_err-date.was))

pub day_on-requires : goal.day_on-requires
day_on-requires c =
    let t = asked-there _ _ (sym c.existing.ensures ∙ c.in_ok-date.was) in
    (t.1.valid, t.1.low, omega arith)

pub returns : goal.returns
unfolding day_answer
returns c =
    let t = asked-there _ _ (sym c.existing.ensures ∙ c.in_ok-date.was) in
    rw (c.day_on.ensures, t.0, t.2)
