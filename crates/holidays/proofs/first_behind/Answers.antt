-- Before the first year there is nothing to pass over but days without holidays.
use Rattle.std.proofs.Common.{◌∙◌, arith}
use Rattle.holidays.proofs.WalkLaws.{start-early, start-passed}
use Rattle.holidays.proofs.first_behind.Goals as goal

pub first_from-requires : goal.first_from-requires
first_from-requires c = (omega (arith, c.args.image.first), start-passed _)

pub first_from-requires-2 : goal.first_from-requires-2
first_from-requires-2 c = (omega (arith, c.args.image.first), c.requires.1)

pub returns-then-date-image : goal.returns-then-date-image
returns-then-date-image c =
    c.first_from.ensures ∙ start-early _ _ _ c.args.image.sound c.args.image.first c.if-date-image.true c.requires.0 c.requires.1

pub returns : goal.returns
returns c = c.first_from-2.ensures
