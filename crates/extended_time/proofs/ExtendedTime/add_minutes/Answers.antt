-- `add_minutes` meets its contract: the sum of an unsigned and a signed number of 16 bits fits 32.
use Rattle.std.proofs.Common.{ap, ◌∙◌, arith}
use Rattle.std.proofs.lemmas.Int.{ints}
use Rattle.extended_time.specs.Moments.{signed_moment, sum_of}
use Rattle.extended_time.proofs.ExtendedTime.add_minutes.Goals as goal

pub returns : goal.returns
unfolding sum_of
returns c = c.checked.ensures ∙ ap signed_moment (omega (arith, ints))
