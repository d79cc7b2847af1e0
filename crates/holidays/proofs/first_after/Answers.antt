-- 5 comes before 7, and then the search answers.
use Rattle.std.proofs.Common.{◌≡◌, true, sym, ◌∙◌}
use Rattle.std.proofs.lemmas.Result.{err_from_is_err_and}
use Rattle.dates.proofs.There.{asked-there, asked-refused}
use Rattle.holiday_image.specs.Image.{sound}
use Rattle.holidays.specs.Answers.{first_answer}
use Rattle.holidays.proofs.CheckLaws.{check-refused}
use Rattle.holidays.proofs.WalkLaws.{valid-passed}
use Rattle.holidays.proofs.first_after.Goals as goal
use Rattle.holidays.proofs.first_after.Goals.{In_ok-image}

pub returns-in_err-image : goal.returns-in_err-image
unfolding first_answer
returns-in_err-image c =
    let p = err_from_is_err_and c.from_residual.result c.from_residual.ensures.1 in
    rw (p.1, p.2) (check-refused _ _ _ c.in_err-image.ensures.err)

-- behind the `?` the image is sound
is : (c : In_ok-image) → sound c.args.image.now ≡ true
is c = rw c.in_ok-image.ensures.ok at c.in_ok-image.image.sound

pub returns-in_err-date : goal.returns-in_err-date
unfolding first_answer
returns-in_err-date c =
    let r = c.from_residual-in_err-date in
    let p = err_from_is_err_and r.result r.ensures.1 in
    rw (p.1, p.2, is (goal.at.returns-in_err-date c).In_ok-image) (asked-refused _ _ _ (sym c.existing.ensures ∙ c.in_err-date.was))

pub first_behind-requires : goal.first_behind-requires
first_behind-requires c =
    let t = asked-there _ _ (sym c.existing.ensures ∙ c.in_ok-date.was) in
    (t.1.valid.day_low, valid-passed _ t.1.valid)

pub returns : goal.returns
unfolding first_answer
returns c =
    let t = asked-there _ _ (sym c.existing.ensures ∙ c.in_ok-date.was) in
    rw (c.first_behind.ensures, c.in_ok-image.ensures.ok, is (goal.at.returns c).In_ok-image, t.0, t.2)
