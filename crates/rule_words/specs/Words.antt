-- Items at the front of a word of 64 bits: whether each field keeps its limits, how many bits the item has (none where one does not), and the item.
use Rattle.std.specs.Prelude.{ℕ, ◌*◌, ◌≡◌, Bool, true, false, cond, ◌&&◌, leb, eqb, Option, None, MatchOption}
use Rattle.std.specs.Bool.{then_some}
use Rattle.bits.specs.Bits.{part}
use Rattle.bits.specs.Place.{within, at_most}
use Rattle.bits.specs.Signed.{signed_of}
use Rattle.rules.specs.declared.YearItem.{YearItem}
use Rattle.rules.specs.declared.WeekItem.{WeekItem}
use Rattle.rules.specs.declared.Date.TheVariants as date
use Rattle.rules.specs.declared.WeekdayItem.{WeekdayItem}
use Rattle.rules.specs.declared.WeekdayRange.TheVariants as range
use Rattle.rules.specs.declared.Time.{Time}
use Rattle.rules.specs.declared.Time.TheVariants as time
use Rattle.rules.specs.declared.DateOffset.{DateOffset}
use Rattle.rule_words.specs.declared.Taken.{Taken}

-- a value where a test holds, and none where it fails
abbrev pub Kept : {A : Type 0} → Option A → Bool → A → Type 0
Kept r good value = MatchOption r (good ≡ false) (λ v. (good ≡ true) × (v ≡ value))

-- start 14, end 14, step 14
unfoldable pub year_good : ℕ → Bool
year_good w = within 1900 9999 (part w 50 14) && (within 1900 9999 (part w 36 14) && within 1 9999 (part w 22 14))

unfoldable pub year_of : ℕ → YearItem
year_of w = record { start = part w 50 14; end = part w 36 14; step = part w 22 14 }

unfoldable pub year_taken : ℕ → Option (Taken YearItem)
year_taken w = then_some (year_good w) (record { item = year_of w; width = 42 })

-- start 6, end 6, step 6
unfoldable pub week_good : ℕ → Bool
week_good w = within 1 53 (part w 58 6) && (within 1 53 (part w 52 6) && within 1 53 (part w 46 6))

unfoldable pub week_of : ℕ → WeekItem
week_of w = record { start = part w 58 6; end = part w 52 6; step = part w 46 6 }

unfoldable pub week_taken : ℕ → Option (Taken WeekItem)
week_taken w = then_some (week_good w) (record { item = week_of w; width = 18 })

-- tag 1, start 3, end 3, flags 5 and 5, offset 10
unfoldable pub weekdays_good : ℕ → Bool
weekdays_good w = within 0 6 (part w 60 3) && (within 0 6 (part w 57 3) && at_most 366 (signed_of 1024 (part w 37 10)))

unfoldable pub weekdays_taken : ℕ → Option (Taken WeekdayItem)
weekdays_taken w =
    then_some (weekdays_good w)
    (record { item = record { form = range.Fixed (part w 60 3) (part w 57 3) (part w 52 5) (part w 47 5) (signed_of 1024 (part w 37 10)) }; width = 27 })

-- tag 1, school flag 1, offset 10
unfoldable pub holiday_good : ℕ → Bool
holiday_good w = at_most 366 (signed_of 1024 (part w 52 10))

unfoldable pub holiday_taken : ℕ → Option (Taken WeekdayItem)
holiday_taken w =
    then_some (holiday_good w) (record { item = record { form = range.Holiday (eqb (part w 62 1) 1) (signed_of 1024 (part w 52 10)) }; width = 12 })

-- tag 1: 0 weekdays, 1 holiday
unfoldable pub weekday_taken : ℕ → Option (Taken WeekdayItem)
weekday_taken w = cond (eqb (part w 63 1) 0) (weekdays_taken w) (holiday_taken w)

-- tag 1, then 12 bits, or event 2 and offset 12
unfoldable pub time_taken : ℕ → Option (Taken Time)
time_taken w =
    cond (eqb (part w 63 1) 0) (then_some (leb (part w 51 12) 2880) (record { item = time.Fixed (part w 51 12); width = 13 }))
    (then_some (at_most 1440 (signed_of 4096 (part w 49 12)))
    (record { item = time.Variable (part w 61 2) (signed_of 4096 (part w 49 12)); width = 15 }))

-- tag 2, year flag 1, year 14
unfoldable pub flagged_good : ℕ → Bool
flagged_good w = within (1900 * part w 61 1) (9999 * part w 61 1) (part w 47 14)

-- then month 4, day 5
unfoldable pub fixed_good : ℕ → Bool
fixed_good w = flagged_good w && (within 1 12 (part w 43 4) && within 1 31 (part w 38 5))

-- or month 4, weekday 3, nth 4
unfoldable pub nth_good : ℕ → Bool
nth_good w = flagged_good w && (within 1 12 (part w 43 4) && within 0 6 (part w 40 3))

-- offset 10, with d bits behind it
abbrev pub offset_good : ℕ → ℕ → Bool
offset_good w d = at_most 366 (signed_of 1024 (part w d 10))

-- each form of a date, its offset behind it
unfoldable pub fixed_taken : ℕ → Option (Taken DateOffset)
fixed_taken w =
    then_some (fixed_good w && offset_good w 28)
    (record { item = record { date = date.Fixed (part w 47 14) (part w 43 4) (part w 38 5); offset = signed_of 1024 (part w 28 10) }; width = 36 })

unfoldable pub nth_taken : ℕ → Option (Taken DateOffset)
nth_taken w =
    then_some (nth_good w && offset_good w 26)
    (record {
      item = record {
        date = date.Weekday (part w 47 14) (part w 43 4) (part w 40 3) (signed_of 16 (part w 36 4));
        offset = signed_of 1024 (part w 26 10);
      };
      width = 38;
    })

unfoldable pub easter_taken : ℕ → Option (Taken DateOffset)
easter_taken w =
    then_some (flagged_good w && offset_good w 37) (record { item = record { date = date.Easter (part w 47 14); offset = signed_of 1024 (part w 37 10) }; width = 27 })

-- tag 2: 0 fixed, 1 nth weekday, 2 Easter
unfoldable pub date_taken : ℕ → Option (Taken DateOffset)
date_taken w =
    cond (eqb (part w 62 2) 0) (fixed_taken w) (cond (eqb (part w 62 2) 1) (nth_taken w) (cond (eqb (part w 62 2) 2) (easter_taken w) None))
