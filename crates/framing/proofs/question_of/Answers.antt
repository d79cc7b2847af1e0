-- The parts are those at the places found.
use Rattle.std.proofs.Common.{arith}
use Rattle.std.proofs.lemmas.Grind.{common_steps}
use Rattle.framing.specs.Reading.{parts_of, parts_at}
use Rattle.framing.proofs.question_of.Goals as goal

pub returns-in_err-f : goal.returns-in_err-f
unfolding parts_of
returns-in_err-f c = grind (arith, common_steps)

pub returns : goal.returns
unfolding parts_of parts_at
returns c =
    rw (c.sized.ensures, c.sized-2.ensures, c.sized-3.ensures, c.sized-4.ensures, c.sized-5.ensures, c.half_at.ensures.is, c.half_at-2.ensures.is, c.half_at-3.ensures.is, c.half_at-4.ensures.is, c.half_at-5.ensures.is, c.half_at-6.ensures.is, c.half_at-7.ensures.is, ← c.in_ok-f.ensures.is)
