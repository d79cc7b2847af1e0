-- The search is the rules' rule, by the start that it found.
use Rattle.std.proofs.Common.{◌∙◌, sym, ap}
use Rattle.std.specs.Option.{is_some}
use Rattle.intervals.specs.Intervals.{days, intervals}
use Rattle.intervals.proofs.Same.{same, found-start, no-start, all-passed}
use Rattle.intervals.proofs.within.Goals as goal

pub returns-in-Some : goal.returns-in-Some
unfolding intervals
returns-in-Some c =
    let a = c.args in
    found-start a.n c.in-Some.start (days a.starts.now) (days a.ends.now) (sym c.deciding_start.ensures ∙ c.in-Some.is)
    ∙ same a.n c.requires (days a.starts.now) (days a.ends.now)

pub returns-then-is_none : goal.returns-then-is_none
unfolding intervals
returns-then-is_none c =
    let a = c.args in
    c.unstarted.ensures
    ∙ no-start a.n (days a.starts.now) (days a.ends.now) (ap is_some (sym c.first_from.ensures) ∙ c.if-is_none.ensures)
    ∙ same a.n c.requires (days a.starts.now) (days a.ends.now)

pub returns-else-is_none : goal.returns-else-is_none
unfolding intervals
returns-else-is_none c =
    let a = c.args in
    c.if-is_none.false
    ∙ all-passed a.n (days a.starts.now) (days a.ends.now) (sym c.deciding_start.ensures ∙ c.in-None.is) (ap is_some (sym c.first_from.ensures) ∙ c.if-is_none.ensures)
    ∙ same a.n c.requires (days a.starts.now) (days a.ends.now)
