-- `date_answers::days_apart` meets its contract: dates that exist have numbers far below 2 ^ 31, so that their difference fits.
use Rattle.std.proofs.Common.{◌∙◌, sym, arith}
use Rattle.std.proofs.lemmas.Result.{err_from_is_err_and}
use Rattle.date_answers.specs.Answers.{apart_answer}
use Rattle.dates.proofs.There.{answered-ok, answered-err}
use Rattle.date_answers.proofs.Apart.{first-refused, apart-is}
use Rattle.date_answers.proofs.days_apart.Goals as goal

pub returns-in_err-first : goal.returns-in_err-first
unfolding apart_answer
returns-in_err-first c =
    let p = err_from_is_err_and c.from_residual.result c.from_residual.ensures.1 in
    rw (p.1, p.2) (first-refused _ _ _ _ _ (sym c.number_of.ensures.answer ∙ c.in_err-first.was))

pub returns-in_err-second : goal.returns-in_err-second
unfolding apart_answer
returns-in_err-second c =
    let p = err_from_is_err_and c.from_residual-in_err-second.result c.from_residual-in_err-second.ensures.1 in
    let t = answered-ok _ _ _ (sym c.number_of.ensures.answer ∙ c.in_ok-first.was) in
    rw (p.1, p.2, t.1) (answered-err _ _ _ _ (sym c.number_of-2.ensures.answer ∙ c.in_err-second.was))

pub returns : goal.returns
unfolding apart_answer
returns c =
    let t = answered-ok _ _ _ (sym c.number_of.ensures.answer ∙ c.in_ok-first.was) in
    let u = answered-ok _ _ _ (sym c.number_of-2.ensures.answer ∙ c.in_ok-second.was) in
    rw (apart-is c.in_ok-second.second c.in_ok-first.first (omega (arith, c.in_ok-second.ensures.small)) (omega (arith, c.in_ok-first.ensures.small)), ← t.0, ← u.0, t.1, u.1)
