-- What every item of a read sheet keeps to: the ranges of the rules, as the filters may rely on them.
use Rattle.std.specs.Prelude.{ℕ, ◌≤◌, ◌<◌, ◌≡◌, List, nat_abs, get_or}
use Rattle.bits.specs.Signed.{Below}
use Rattle.rules.specs.Nothing.{no_year, no_monthday, no_week, no_weekday, no_span, no_rule}
use Rattle.rules.specs.declared.Date.{Date}
use Rattle.rules.specs.declared.Date.TheVariants as date
use Rattle.rules.specs.declared.DateOffset.{DateOffset}
use Rattle.rules.specs.declared.Monthday.{Monthday}
use Rattle.rules.specs.declared.Monthday.TheVariants.{Months, YearMonths, Dates}
use Rattle.rules.specs.declared.MonthdayItem.{MonthdayItem}
use Rattle.rules.specs.declared.YearItem.{YearItem}
use Rattle.rules.specs.declared.WeekItem.{WeekItem}
use Rattle.rules.specs.declared.WeekdayRange.{WeekdayRange}
use Rattle.rules.specs.declared.WeekdayRange.TheVariants as range
use Rattle.rules.specs.declared.WeekdayItem.{WeekdayItem}
use Rattle.rules.specs.declared.Time.{Time}
use Rattle.rules.specs.declared.Time.TheVariants as time
use Rattle.rules.specs.declared.TimeSpan.{TimeSpan}
use Rattle.rules.specs.declared.Rule.{Rule}
use Rattle.rules.specs.declared.Sheet.{Sheet}
pub use Rattle.rule_lists.specs.RuleAt.{Few}

abbrev pub Between : ℕ → ℕ → ℕ → Type 0
Between lo hi n = (lo ≤ n) × (n ≤ hi)

-- a year, or 0 where there is none
pub data MaybeYear : ℕ → Type 0 where
  without : MaybeYear 0
  with-year : {y : ℕ} → Between 1900 9999 y → MaybeYear y

abbrev pub DateOk : Date → Type 0
DateOk (date.Fixed y m d) = MaybeYear y × (Between 1 12 m × Between 1 31 d)
DateOk (date.Weekday y m w n) = MaybeYear y × (Between 1 12 m × ((w ≤ 6) × Below 8 n))
DateOk (date.Easter y) = MaybeYear y

abbrev pub DateOffsetOk : DateOffset → Type 0
DateOffsetOk d = DateOk d.date × (nat_abs d.offset ≤ 366)

abbrev pub MonthdayFormOk : Monthday → Type 0
MonthdayFormOk (Months a b) = Between 1 12 a × Between 1 12 b
MonthdayFormOk (YearMonths y a b) = Between 1900 9999 y × (Between 1 12 a × Between 1 12 b)
MonthdayFormOk (Dates a b) = DateOffsetOk a × DateOffsetOk b

abbrev pub MonthdayOk : MonthdayItem → Type 0
MonthdayOk m = MonthdayFormOk m.form

abbrev pub YearOk : YearItem → Type 0
YearOk y = Between 1900 9999 y.start × (Between 1900 9999 y.end × Between 1 9999 y.step)

abbrev pub WeekOk : WeekItem → Type 0
WeekOk w = Between 1 53 w.start × (Between 1 53 w.end × Between 1 53 w.step)

abbrev pub WeekdayFormOk : WeekdayRange → Type 0
WeekdayFormOk (range.Fixed a b f g o) = (a ≤ 6) × ((b ≤ 6) × ((f ≤ 31) × ((g ≤ 31) × (nat_abs o ≤ 366))))
WeekdayFormOk (range.Holiday school o) = nat_abs o ≤ 366

abbrev pub WeekdayOk : WeekdayItem → Type 0
WeekdayOk d = WeekdayFormOk d.form

abbrev pub TimeOk : Time → Type 0
TimeOk (time.Fixed m) = m ≤ 2880
TimeOk (time.Variable e o) = (e ≤ 3) × (nat_abs o ≤ 1440)

abbrev pub SpanOk : TimeSpan → Type 0
SpanOk t = TimeOk t.start × TimeOk t.end

-- the first n of a list are good, and what stands behind them is fixed
pub record Counted {A : Type 0} (Good : A → Type 0) (none : A) (n : ℕ) (l : List A) : Type 0 where
  pub good : (i : ℕ) → i < n → Good (get_or l i none)
  pub rest : (i : ℕ) → n ≤ i → get_or l i none ≡ none

pub record RuleOk (r : Rule) : Type 0 where
  pub kind : r.kind ≤ 2
  pub comment : r.comment ≤ 255
  pub year_count : r.year_count ≤ 8
  pub monthday_count : r.monthday_count ≤ 8
  pub week_count : r.week_count ≤ 8
  pub weekday_count : r.weekday_count ≤ 8
  pub span_count : r.span_count ≤ 8
  pub years : Counted YearOk no_year r.year_count r.years
  pub monthdays : Counted MonthdayOk no_monthday r.monthday_count r.monthdays
  pub weeks : Counted WeekOk no_week r.week_count r.weeks
  pub weekdays : Counted WeekdayOk no_weekday r.weekday_count r.weekdays
  pub spans : Counted SpanOk no_span r.span_count r.spans

pub record SheetOk (x : Sheet) : Type 0 where
  pub count : x.count ≤ 32
  pub rules : Counted RuleOk no_rule x.count x.rules
