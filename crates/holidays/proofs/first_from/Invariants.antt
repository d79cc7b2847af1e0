-- What is to be found from where the walk stands is what was to be found from its start: over months within a year, then over years.
use Rattle.std.proofs.Common.{◌≡◌, ◌≤◌, ◌<◌}
use Rattle.calendar.specs.Calendar.{leap, month_length, day_number}
use Rattle.holidays.specs.Answers.{first_from}
use Rattle.holidays.proofs.DayLaws.{number}
use Rattle.holidays.proofs.WalkLaws.{Here}
use Rattle.holidays.proofs.first_from.Given as goal

abbrev pub invariant-loop-year : goal.invariant-loop-year
invariant-loop-year l = Here l.image.bytes.now (day_number l.fn.from) l.year l.first l.passed

abbrev pub invariant-loop-month : goal.invariant-loop-month
invariant-loop-month l = record {
  same : first_from l.image.bytes.now (day_number l.fn.from) ≡ first_from l.image.bytes.now (number l.year l.month l.passed);
  low : 1 ≤ l.month;
  room : l.month ≤ 12 → l.passed ≤ month_length (leap l.year) l.month;
  done : 12 < l.month → l.passed ≡ 0;
}
