-- The forms of a monthday item, case by case.
-- Assumes nothing.
use mathlib.Core.Path.{◌≡◌}
use Prim.Native.Nat.{ℕ}
use Rattle.days.specs.declared.Day.{Day}
use Rattle.rules.specs.declared.DateOffset.{DateOffset}
use Rattle.rules.specs.declared.Monthday.{Monthday}
use Rattle.rules.specs.declared.Monthday.TheVariants.{Months, YearMonths, Dates}
use Rattle.date_items.specs.Items.{months_match, year_months_match}
use Rattle.date_ranges.specs.Ranges.{dates_match}
use Rattle.date_lists.specs.Lists.{monthday_matches}

module _ (form : Monthday) (d : Day) where
  pub on-months : {start end : ℕ} → form ≡ Months start end → months_match start end d ≡ monthday_matches form d
  unfolding monthday_matches
  on-months e = rw e

  pub on-year-months : {year start end : ℕ} → form ≡ YearMonths year start end → year_months_match year start end d ≡ monthday_matches form d
  unfolding monthday_matches
  on-year-months e = rw e

  pub on-dates : {start end : DateOffset} → form ≡ Dates start end → dates_match start end d ≡ monthday_matches form d
  unfolding monthday_matches
  on-dates e = rw e
