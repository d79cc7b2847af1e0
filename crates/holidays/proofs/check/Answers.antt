-- The answer is the judgement of the image.
use Rattle.std.proofs.Common.{sym}
use Rattle.std.proofs.lemmas.Result.{err_from_is_err_and}
use Rattle.holidays.specs.Answers.{check_answer}
use Rattle.holidays.proofs.check.Goals as goal

pub returns-in_err-sound_image : goal.returns-in_err-sound_image
returns-in_err-sound_image c =
    let p = err_from_is_err_and c.from_residual.result c.from_residual.ensures.1 in
    rw (p.1, p.2) (sym c.in_err-sound_image.ensures.err)

pub returns : goal.returns
unfolding check_answer
returns c = rw (rw c.in_ok-sound_image.ensures.ok at c.in_ok-sound_image.field-0.sound)
