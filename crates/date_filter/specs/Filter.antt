-- A rule's match on a day, and whether its kind becomes unknown there.
-- Assumes nothing.
use Rattle.std.specs.Prelude.{ℕ, ◌≤◌, Bool, true, false, ◌&&◌, ◌||◌, List, ◌≡◌, nat_abs, take, All}
use Rattle.days.specs.declared.Day.{Day}
use Rattle.days.specs.DayOf.{day_of}
use Rattle.rules.specs.declared.WeekdayRange.{WeekdayRange}
use Rattle.rules.specs.declared.WeekdayRange.TheVariants.{Fixed, Holiday}
use Rattle.rules.specs.declared.WeekdayItem.{WeekdayItem}
use Rattle.rules.specs.declared.Rule.{Rule}
pub use Rattle.images.specs.Images.{Holidays, images}
unfoldable pub use Rattle.images.specs.Images.{certain_of, unknown_of}
use Rattle.holiday_image.specs.Image.{names, sound}
use Rattle.date_items.specs.Items.{shifted, weekday_matches}
use Rattle.date_ranges.specs.Ranges.{some}
use Rattle.date_lists.specs.Lists.{list_matches, years_match, weeks_match, monthdays_match, YearItemOk, WeekItemOk, MonthdayOk}

unfoldable pub in_image : List ℕ → Day → Bool
in_image image d = names image (record { year = d.year; month = d.month; day = d.day })

-- Holiday: date - offset is in the certain or unknown image
unfoldable pub weekday_item_matches : Holidays → WeekdayRange → Day → Bool
weekday_item_matches h (Fixed start end firsts lasts offset) d = weekday_matches start end firsts lasts offset d
weekday_item_matches h (Holiday school offset) d =
    in_image (certain_of h school) (shifted d offset) || in_image (unknown_of h school) (shifted d offset)

unfoldable pub weekdays_match : Holidays → List WeekdayItem → Day → Bool
weekdays_match h items d = list_matches (λ i. weekday_item_matches h i.form d) items

-- a rule matches when each of its four lists is empty or has a matching item
unfoldable pub rule_matches : Holidays → Rule → Day → Bool
rule_matches h r d =
    years_match (take r.year_count r.years) d
    && (monthdays_match (take r.monthday_count r.monthdays) d
    && (weeks_match (take r.week_count r.weeks) d
    && weekdays_match h (take r.weekday_count r.weekdays) d))

-- in the unknown image of its kind, the rule's kind becomes unknown for that day
unfoldable pub item_unknown : Holidays → WeekdayRange → Day → Bool
item_unknown h (Fixed start end firsts lasts offset) d = false
item_unknown h (Holiday school offset) d = in_image (unknown_of h school) (shifted d offset)

unfoldable pub weekdays_unknown : Holidays → List WeekdayItem → Day → Bool
weekdays_unknown h items d = some (λ i. item_unknown h i.form d) items

unfoldable pub rule_unknown : Holidays → Rule → Day → Bool
rule_unknown h r d = weekdays_unknown h (take r.weekday_count r.weekdays) d

-- what the readers of images ensure
abbrev pub FormOk : WeekdayRange → Type 0
FormOk (Fixed start end firsts lasts offset) = nat_abs offset ≤ 366
FormOk (Holiday school offset) = nat_abs offset ≤ 366

pub record WeekdayOk (i : WeekdayItem) : Type 0 where
  pub form : FormOk i.form

pub record Sound (h : Holidays) : Type 0 where
  pub public : sound h.public ≡ true
  pub public_unknown : sound h.public_unknown ≡ true
  pub school : sound h.school ≡ true
  pub school_unknown : sound h.school_unknown ≡ true

-- what is asked: sound images, and a day from 1899-12-31 to 9999-12-31
pub record Asked (h : Holidays) (d : Day) : Type 0 where
  pub sound : Sound h
  pub day : d ≡ day_of d.number
  pub low : 693961 ≤ d.number
  pub high : d.number ≤ 3652425

pub record RuleOk (r : Rule) : Type 0 where
  pub years : All YearItemOk (take r.year_count r.years)
  pub monthdays : All MonthdayOk (take r.monthday_count r.monthdays)
  pub weeks : All WeekItemOk (take r.week_count r.weeks)
  pub weekdays : All WeekdayOk (take r.weekday_count r.weekdays)
  pub counts : (r.year_count ≤ 8) × (r.monthday_count ≤ 8) × (r.week_count ≤ 8) × (r.weekday_count ≤ 8)
