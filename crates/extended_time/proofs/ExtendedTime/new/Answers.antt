-- `new` meets its contract: its test is the definition's, and its minutes fit 16 bits.
use Rattle.std.proofs.Common.{ap, ◌∙◌, arith}
use Rattle.extended_time.specs.Moments.{moment_of}
use borrow.Author.Tests.{le-leb, lt-leb}
use Rattle.extended_time.specs.Moments.{clock_time}
use Rattle.extended_time.proofs.ExtendedTime.new.Goals as goal

pub returns-then-minute-gt59 : goal.returns-then-minute-gt59
unfolding clock_time
returns-then-minute-gt59 c = rw (lt-leb c.args.minute 59 c.if-minute-gt59.true)

pub returns : goal.returns
unfolding clock_time
returns c = rw (le-leb c.args.minute 59 c.if-minute-gt59.false) (c.from_mins_from_midnight.ensures ∙ ap moment_of (omega arith))
