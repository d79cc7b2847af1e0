-- The lists of a rule that need no holidays: empty, or with a matching item.
-- Assumes nothing.
use Rattle.std.specs.Prelude.{◌≤◌, Bool, true, List, [], ◌∷◌}
use Rattle.days.specs.declared.Day.{Day}
use Rattle.rules.specs.declared.Monthday.{Monthday}
use Rattle.rules.specs.declared.Monthday.TheVariants.{Months, YearMonths, Dates}
use Rattle.rules.specs.declared.MonthdayItem.{MonthdayItem}
use Rattle.rules.specs.declared.YearItem.{YearItem}
use Rattle.rules.specs.declared.WeekItem.{WeekItem}
use Rattle.date_items.specs.Items.{year_matches, week_matches, months_match, year_months_match}
use Rattle.date_bounds.specs.Bounds.{MonthOk, BoundOk}
use Rattle.date_ranges.specs.Ranges.{some, dates_match}

-- a list is empty or has a matching item
unfoldable pub list_matches : {A : Type 0} → (A → Bool) → List A → Bool
list_matches p [] = true
list_matches p (x ∷ xs) = some p (x ∷ xs)

unfoldable pub years_match : List YearItem → Day → Bool
years_match items d = list_matches (λ i. year_matches i d) items

unfoldable pub weeks_match : List WeekItem → Day → Bool
weeks_match items d = list_matches (λ i. week_matches i d) items

-- the three forms of a monthday item
unfoldable pub monthday_matches : Monthday → Day → Bool
monthday_matches (Months start end) d = months_match start end d
monthday_matches (YearMonths year start end) d = year_months_match year start end d
monthday_matches (Dates start end) d = dates_match start end d

unfoldable pub monthdays_match : List MonthdayItem → Day → Bool
monthdays_match items d = list_matches (λ i. monthday_matches i.form d) items

-- what the reader of images ensures of an item
pub record YearItemOk (i : YearItem) : Type 0 where
  pub step : 1 ≤ i.step

pub record WeekItemOk (i : WeekItem) : Type 0 where
  pub step : 1 ≤ i.step

abbrev pub FormOk : Monthday → Type 0
FormOk (Months start end) = Unit {0}
FormOk (YearMonths year start end) = MonthOk start × MonthOk end
FormOk (Dates start end) = BoundOk start × BoundOk end

pub record MonthdayOk (i : MonthdayItem) : Type 0 where
  pub form : FormOk i.form
