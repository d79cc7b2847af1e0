-- The first end, if there is one, is the definition's.
use borrow.Author.Tests.{le-leb, lt-leb}
use Rattle.std.proofs.Common.{◌∙◌, sym}
use Rattle.intervals.specs.Intervals.{first_day, days}
use Rattle.intervals.proofs.Same.{up_to}
use Rattle.intervals.proofs.unstarted.Goals as goal

pub returns-then-n-ge-FIRST_DAY : goal.returns-then-n-ge-FIRST_DAY
returns-then-n-ge-FIRST_DAY c =
    rw (
      up_to c.args.n c.in-Some.end (days c.args.ends.now) (sym c.first_from.ensures ∙ c.in-Some.is),
      le-leb first_day c.args.n c.if-n-ge-FIRST_DAY.true,
    )

pub returns-else-n-ge-FIRST_DAY : goal.returns-else-n-ge-FIRST_DAY
returns-else-n-ge-FIRST_DAY c =
    rw (
      up_to c.args.n c.in-Some.end (days c.args.ends.now) (sym c.first_from.ensures ∙ c.in-Some.is),
      lt-leb first_day c.args.n c.if-n-ge-FIRST_DAY.false,
    )
