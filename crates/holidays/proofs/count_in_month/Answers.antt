-- 5 comes before 7, and then the count answers.
use Rattle.std.proofs.Common.{◌≡◌, true, sym, ◌∙◌}
use Rattle.std.proofs.lemmas.Result.{err_from_is_err_and}
use Rattle.dates.proofs.There.{month-there}
use Rattle.holiday_image.specs.Image.{sound}
use Rattle.holidays.specs.Answers.{count_answer}
use Rattle.holidays.proofs.CheckLaws.{check-refused}
use Rattle.holidays.proofs.count_in_month.Goals as goal
use Rattle.holidays.proofs.count_in_month.Goals.{In_ok-image}

pub returns-in_err-image : goal.returns-in_err-image
unfolding count_answer
returns-in_err-image c =
    let p = err_from_is_err_and c.from_residual.result c.from_residual.ensures.1 in
    rw (p.1, p.2) (check-refused _ _ _ c.in_err-image.ensures.err)

-- behind the `?` the image is sound
is : (c : In_ok-image) → sound c.args.image.now ≡ true
is c = rw c.in_ok-image.ensures.ok at c.in_ok-image.image.sound

pub returns-then-not-is_month : goal.returns-then-not-is_month
unfolding count_answer
returns-then-not-is_month c = rw (is (goal.at.returns-then-not-is_month c).In_ok-image, sym c.is_month.ensures ∙ c.if-not-is_month.true)

pub days_in-requires : goal.days_in-requires
days_in-requires c =
    let t = month-there _ _ (sym c.is_month.ensures ∙ c.if-not-is_month.false) in
    (t.month_low, t.month_high)

pub returns : goal.returns
unfolding count_answer
returns c =
    rw (c.days_in.ensures, c.in_ok-image.ensures.ok, is (goal.at.returns c).In_ok-image, sym c.is_month.ensures ∙ c.if-not-is_month.false)
