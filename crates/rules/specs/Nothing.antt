-- What stands behind the counts of a rule and of a sheet.
use Rattle.std.specs.Prelude.{false, pos, replicate}
use Rattle.rules.specs.declared.Operator.TheVariants.{Normal}
use Rattle.rules.specs.declared.Monthday.TheVariants.{Months}
use Rattle.rules.specs.declared.WeekdayRange.TheVariants.{Holiday}
use Rattle.rules.specs.declared.Time.TheVariants as time
use Rattle.rules.specs.declared.YearItem.{YearItem}
use Rattle.rules.specs.declared.MonthdayItem.{MonthdayItem}
use Rattle.rules.specs.declared.WeekItem.{WeekItem}
use Rattle.rules.specs.declared.WeekdayItem.{WeekdayItem}
use Rattle.rules.specs.declared.TimeSpan.{TimeSpan}
use Rattle.rules.specs.declared.Rule.{Rule}

abbrev pub no_year : YearItem
no_year = record { start = 0; end = 0; step = 0 }

abbrev pub no_monthday : MonthdayItem
no_monthday = record { form = Months 0 0 }

abbrev pub no_week : WeekItem
no_week = record { start = 0; end = 0; step = 0 }

abbrev pub no_weekday : WeekdayItem
no_weekday = record { form = Holiday false (pos 0) }

abbrev pub no_span : TimeSpan
no_span = record { start = time.Fixed 0; end = time.Fixed 0 }

abbrev pub no_rule : Rule
no_rule =
    record {
      operator = Normal;
      kind = 0;
      comment = 0;
      year_count = 0;
      monthday_count = 0;
      week_count = 0;
      weekday_count = 0;
      span_count = 0;
      years = replicate 8 no_year;
      monthdays = replicate 8 no_monthday;
      weeks = replicate 8 no_week;
      weekdays = replicate 8 no_weekday;
      spans = replicate 8 no_span;
    }
