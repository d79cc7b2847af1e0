-- `date_answers::number_of` meets its contract: a date that exists has a small number.
use Rattle.std.proofs.Common.{arith, ◌∙◌, sym}
use Rattle.std.proofs.lemmas.Result.{err_from_is_err_and}
use Rattle.dates.proofs.There.{asked-there, asked-refused, small-day, small-number}
use Rattle.date_answers.proofs.number_of.Goals as goal

pub returns-in_err-date : goal.returns-in_err-date
returns-in_err-date c =
    let p = err_from_is_err_and c.from_residual.result c.from_residual.ensures.1 in
    record { answer = rw (p.1, p.2) (asked-refused _ _ _ (sym c.existing.ensures ∙ c.in_err-date.was)); small = rw p.1 tt }

pub day_number-requires : goal.day_number-requires
day_number-requires c =
    let t = asked-there _ _ (sym c.existing.ensures ∙ c.in_ok-date.was) in
    (omega arith, omega arith, small-day _ t.1)

pub returns : goal.returns
returns c =
    let t = asked-there _ _ (sym c.existing.ensures ∙ c.in_ok-date.was) in
    record { answer = rw (c.day_number.ensures, t.0, t.2); small = omega (arith, small-number _ t.1) }
