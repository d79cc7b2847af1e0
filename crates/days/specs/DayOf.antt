-- A day, as a function of its number: its date and all else that the filters ask of it.
-- Assumes nothing.
use Rattle.std.specs.Prelude.{ℕ}
use Rattle.calendar.specs.Calendar.{leap, month_length, ordinal, date_of, weekday, iso_week}
use Rattle.days.specs.declared.Day.{Day}

unfoldable pub day_of : ℕ → Day
day_of n =
    record {
      number = n;
      year = (date_of n).year;
      ordinal = ordinal (date_of n);
      month = (date_of n).month;
      day = (date_of n).day;
      weekday = weekday n;
      length = month_length (leap (date_of n).year) (date_of n).month;
      week = iso_week n;
    }
