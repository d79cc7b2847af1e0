-- A rule: what it does, its five counts, its items.
use Rattle.std.specs.Prelude.{ℕ, ◌≤◌, List, replicate}
use Rattle.refusals.specs.declared.Cause.TheVariants.{PastLimits}
use Rattle.bits.specs.Place.{Place, Read, number_at}
use Rattle.rules.specs.Nothing.{no_year, no_monthday, no_week, no_weekday, no_span}
use Rattle.rules.specs.declared.Operator.{Operator}
use Rattle.rules.specs.declared.YearItem.{YearItem}
use Rattle.rules.specs.declared.MonthdayItem.{MonthdayItem}
use Rattle.rules.specs.declared.WeekItem.{WeekItem}
use Rattle.rules.specs.declared.WeekdayItem.{WeekdayItem}
use Rattle.rules.specs.declared.TimeSpan.{TimeSpan}
use Rattle.rules.specs.declared.Rule.{Rule}
use Rattle.rule_items.specs.Codes.{operator_at, kind_at}
use Rattle.rule_items.specs.Years.{year_at, week_at}
use Rattle.rule_items.specs.Dates.{monthday_at}
use Rattle.rule_items.specs.Weekdays.{weekday_item_at}
use Rattle.rule_items.specs.Spans.{span_at}
use Rattle.rule_lists.specs.Listed.{listed}
use Rattle.rule_lists.specs.declared.Head.{Head}
use Rattle.rule_lists.specs.declared.Counts.{Counts}

-- operator 2, kind 2, comment 8
unfoldable pub head_at : List ℕ → Place → Read Head
head_at s p =
    let o : Read Operator = operator_at s p in
    let k : Read ℕ = kind_at s o.place in
    let c : Read ℕ = number_at s k.place 8 0 255 PastLimits in
    record { item = record { operator = o.item; kind = k.item; comment = c.item }; place = c.place }

-- a count 4, 0 to 8
abbrev pub count_at : List ℕ → Place → Read ℕ
count_at s p = number_at s p 4 0 8 PastLimits

-- years, monthdays, weeks, weekdays, spans
unfoldable pub counts_at : List ℕ → Place → Read Counts
counts_at s p =
    let y : Read ℕ = count_at s p in
    let m : Read ℕ = count_at s y.place in
    let w : Read ℕ = count_at s m.place in
    let d : Read ℕ = count_at s w.place in
    let t : Read ℕ = count_at s d.place in
    record { item = record { years = y.item; monthdays = m.item; weeks = w.item; weekdays = d.item; spans = t.item }; place = t.place }

-- five counts of at most 8
pub record Few (c : Counts) : Type 0 where
  pub ys : c.years ≤ 8
  pub ms : c.monthdays ≤ 8
  pub ws : c.weeks ≤ 8
  pub ds : c.weekdays ≤ 8
  pub ts : c.spans ≤ 8

abbrev pub years_at : List ℕ → Place → ℕ → Read (List YearItem)
years_at s = listed (year_at s) (replicate 8 no_year)

abbrev pub monthdays_at : List ℕ → ℕ → Place → ℕ → Read (List MonthdayItem)
monthdays_at s edition = listed (monthday_at s edition) (replicate 8 no_monthday)

abbrev pub weeks_at : List ℕ → Place → ℕ → Read (List WeekItem)
weeks_at s = listed (week_at s) (replicate 8 no_week)

abbrev pub weekdays_at : List ℕ → Place → ℕ → Read (List WeekdayItem)
weekdays_at s = listed (weekday_item_at s) (replicate 8 no_weekday)

abbrev pub spans_at : List ℕ → Place → ℕ → Read (List TimeSpan)
spans_at s = listed (span_at s) (replicate 8 no_span)

abbrev pub rule_of : Head → Counts → List YearItem → List MonthdayItem → List WeekItem → List WeekdayItem → List TimeSpan → Rule
rule_of h c ys ms ws ds ts =
    record {
      operator = h.operator;
      kind = h.kind;
      comment = h.comment;
      year_count = c.years;
      monthday_count = c.monthdays;
      week_count = c.weeks;
      weekday_count = c.weekdays;
      span_count = c.spans;
      years = ys;
      monthdays = ms;
      weeks = ws;
      weekdays = ds;
      spans = ts;
    }

-- the items in the order of their counts
unfoldable pub rule_at : List ℕ → ℕ → Place → Read Rule
rule_at s edition p =
    let h : Read Head = head_at s p in
    let c : Read Counts = counts_at s h.place in
    let ys : Read (List YearItem) = years_at s c.place c.item.years in
    let ms : Read (List MonthdayItem) = monthdays_at s edition ys.place c.item.monthdays in
    let ws : Read (List WeekItem) = weeks_at s ms.place c.item.weeks in
    let ds : Read (List WeekdayItem) = weekdays_at s ws.place c.item.weekdays in
    let ts : Read (List TimeSpan) = spans_at s ds.place c.item.spans in
    record { item = rule_of h.item c.item ys.item ms.item ws.item ds.item ts.item; place = ts.place }
