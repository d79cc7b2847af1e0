-- `days::back` meets its contract: the moved number lies at most 366 days before, so that its year is found from two years back, and its day is made there.
use Rattle.std.proofs.Common.{◌≡◌, ◌+◌, ◌≤◌, arith, rules, ap, ◌∙◌}
use mir.Facts.{to_z-of_z}
use Rattle.calendar.specs.Moved.{moved_back}
use Rattle.calendar.proofs.Offsets.{moved_back-low, moved_back-high}
use Rattle.days.specs.DayOf.{day_of}
use Rattle.days.proofs.Laws.{known, year-from, year-to}
use Rattle.days.proofs.back.Goals as goal
use Rattle.days.proofs.back.Goals.{After-earlier-number}

-- the number that the day moves to
moved : (c : After-earlier-number) → c.earlier-number.result ≡ moved_back c.args.day.number c.args.offset
moved c = c.earlier-number.ensures ∙ ap (moved_back c.args.day.number) (to_z-of_z c.ranges.offset)

-- and how far that is from the first and the last day that can be asked for
range : (c : After-earlier-number) → (367 ≤ c.earlier-number.result) × (c.args.day.number ≤ c.earlier-number.result + 366) × (c.earlier-number.result ≤ 5000366)
range c = omega (arith, moved c, moved_back-low c.args.day.number c.args.offset, moved_back-high c.args.day.number c.args.offset)

pub settle_near-at-requires : goal.settle_near-at-requires
settle_near-at-requires c =
    let s = known c.args.day c.requires.0 (search rules) in
    let r = range (goal.at.settle_near-at-requires c).After-earlier-number in
    (s, year-from {k = 1} s (search rules), omega (arith, year-to {k = 20000} s (omega arith)), omega arith, omega arith, omega arith)

pub day_in-requires : goal.day_in-requires
day_in-requires c =
    let s = c.settle_near-at.ensures in
    let r = range (goal.at.day_in-requires c).After-earlier-number in
    (s, omega (arith, year-from {k = 0} s (omega arith)), omega (arith, year-to {k = 50000} s (omega arith)), omega arith)

pub returns : goal.returns
returns c = c.day_in.ensures ∙ ap day_of (moved (goal.at.returns c).After-earlier-number)
