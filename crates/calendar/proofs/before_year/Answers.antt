-- `calendar::before_year` meets its contract: the sum of the years' lengths, directly.
use Rattle.calendar.proofs.Direct.{by-centuries}
use Rattle.calendar.proofs.before_year.Goals as goal

pub returns : goal.returns
returns c = by-centuries c.args.year
