-- The four bounds are those of the definition.
use mathlib.Core.Path.{◌∙◌}
use Rattle.date_ranges.specs.Ranges.{dated_match}
use Rattle.date_ranges.proofs.Laws.{same-proper}
use Rattle.date_ranges.proofs.dated.Goals as goal

pub returns : goal.returns
unfolding dated_match
returns c =
    c.first_proper.ensures
    ∙ same-proper c.args.n c.bound_on-s.ensures c.bound_on-earlier.ensures c.bound_on-e.ensures c.bound_on-later.ensures
