-- Dates, dates with an offset, and monthday items.
use Rattle.std.specs.Prelude.{ℕ, zero, suc, ◌*◌, List, ℤ}
use Rattle.refusals.specs.declared.Cause.TheVariants.{NoMeaning, PastLimits}
use Rattle.bits.specs.Place.{Place, Read, number_at, signed_at}
use Rattle.rules.specs.declared.Date.{Date}
use Rattle.rules.specs.declared.Date.TheVariants.{Fixed, Weekday, Easter}
use Rattle.rules.specs.declared.DateOffset.{DateOffset}
use Rattle.rules.specs.declared.MonthdayItem.{MonthdayItem}
use Rattle.rules.specs.declared.Monthday.TheVariants.{Months, YearMonths, Dates}
use Rattle.rule_items.specs.Codes.{weekday_at}

-- year flag 1, year 14: 1900 to 9999, and 0 with flag 0
unfoldable pub flagged_year : List ℕ → Place → Read ℕ
flagged_year s p =
    let f : Read ℕ = number_at s p 1 0 1 PastLimits in
    number_at s f.place 14 (1900 * f.item) (9999 * f.item) PastLimits

-- flag, year, month 4, day 5 (1 to 31)
unfoldable pub fixed_date : List ℕ → Place → Read Date
fixed_date s p =
    let y : Read ℕ = flagged_year s p in
    let m : Read ℕ = number_at s y.place 4 1 12 PastLimits in
    let d : Read ℕ = number_at s m.place 5 1 31 PastLimits in
    record { item = Fixed y.item m.item d.item; place = d.place }

-- flag, year, month, weekday 3, nth 4 bits signed
unfoldable pub nth_date : List ℕ → Place → Read Date
nth_date s p =
    let y : Read ℕ = flagged_year s p in
    let m : Read ℕ = number_at s y.place 4 1 12 PastLimits in
    let d : Read ℕ = weekday_at s m.place in
    let n : Read ℤ = signed_at s d.place 4 8 in
    record { item = Weekday y.item m.item d.item n.item; place = n.place }

-- flag, year
unfoldable pub easter_date : List ℕ → Place → Read Date
easter_date s p =
    let y : Read ℕ = flagged_year s p in
    record { item = Easter y.item; place = y.place }

abbrev pub date_form : List ℕ → ℕ → Place → Read Date
date_form s zero p = fixed_date s p
date_form s (suc zero) p = nth_date s p
date_form s (suc (suc n)) p = easter_date s p

-- tag 2: 0 fixed, 1 nth weekday, 2 Easter
unfoldable pub date_at : List ℕ → Place → Read Date
date_at s p =
    let t : Read ℕ = number_at s p 2 0 2 NoMeaning in
    date_form s t.item t.place

-- date, offset 10, of the edition given: edition 1 has nothing more
unfoldable pub date_offset : List ℕ → ℕ → Place → Read DateOffset
date_offset s edition p =
    let d : Read Date = date_at s p in
    let o : Read ℤ = signed_at s d.place 10 366 in
    record { item = record { date = d.item; offset = o.item }; place = o.place }

-- start month 4, end month 4 (1 to 12)
unfoldable pub months_form : List ℕ → Place → Read MonthdayItem
months_form s p =
    let a : Read ℕ = number_at s p 4 1 12 PastLimits in
    let b : Read ℕ = number_at s a.place 4 1 12 PastLimits in
    record { item = record { form = Months a.item b.item }; place = b.place }

-- year 14, then the months
unfoldable pub year_months_form : List ℕ → Place → Read MonthdayItem
year_months_form s p =
    let y : Read ℕ = number_at s p 14 1900 9999 PastLimits in
    let a : Read ℕ = number_at s y.place 4 1 12 PastLimits in
    let b : Read ℕ = number_at s a.place 4 1 12 PastLimits in
    record { item = record { form = YearMonths y.item a.item b.item }; place = b.place }

-- start date, offset, end date, offset
unfoldable pub dates_form : List ℕ → ℕ → Place → Read MonthdayItem
dates_form s edition p =
    let a : Read DateOffset = date_offset s edition p in
    let b : Read DateOffset = date_offset s edition a.place in
    record { item = record { form = Dates a.item b.item }; place = b.place }

abbrev pub monthday_form : List ℕ → ℕ → ℕ → Place → Read MonthdayItem
monthday_form s edition zero p = months_form s p
monthday_form s edition (suc zero) p = year_months_form s p
monthday_form s edition (suc (suc n)) p = dates_form s edition p

-- tag 2: 0 months, 1 months with year, 2 dates
unfoldable pub monthday_at : List ℕ → ℕ → Place → Read MonthdayItem
monthday_at s edition p =
    let t : Read ℕ = number_at s p 2 0 2 NoMeaning in
    monthday_form s edition t.item t.place
