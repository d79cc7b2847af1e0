-- The starts and ends are those of the definition.
use mathlib.Core.Path.{◌∙◌}
use Rattle.date_ranges.specs.Ranges.{other_match}
use Rattle.date_ranges.proofs.Laws.{same-intervals}
use Rattle.date_ranges.proofs.other.Goals as goal

pub returns : goal.returns
unfolding other_match
returns c =
    c.within.ensures ∙ same-intervals c.args.n c.around-starts.ensures c.around-ends.ensures
