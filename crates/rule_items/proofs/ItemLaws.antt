-- Each item is its fields in reading order: the code's steps, put together from the last to the first, are the definition.
use mathlib.Core.Path.{◌≡◌, refl}
use mathlib.Core.List.{List}
use Prim.Native.Nat.{ℕ, zero, suc, ◌*◌, ◌^◌, ◌<◌, ◌≤◌}
use native.Mathlib.Omega.{arith}
use lib.Dec.{eqb}
use lib.IntN.{ℤ}
use lib.Signed.{mag}
use mir.Syntax.{w16}
use mir.Val.{to_z, of_z}
use Rattle.refusals.specs.declared.Cause.TheVariants.{NoMeaning, PastLimits}
use Rattle.bits.specs.Place.{Place, Read, number_of, number_at, signed_at}
use Rattle.bits.specs.Place.{read_at, Number}
use Rattle.bits.proofs.SignLaws.{same16}
use Rattle.bits.proofs.ReadLaws.{Stays, coded}
use Rattle.std.specs.Prelude.{Ok}
use Rattle.bits.specs.declared.Reading.{Reading}
use Rattle.rules.specs.declared.Date.{Date}
use Rattle.rules.specs.declared.Date.TheVariants as date
use Rattle.rules.specs.declared.DateOffset.{DateOffset}
use Rattle.rules.specs.declared.Monthday.TheVariants.{Months, YearMonths, Dates}
use Rattle.rules.specs.declared.WeekdayRange.TheVariants as range
use Rattle.rules.specs.declared.Time.{Time}
use Rattle.rules.specs.declared.Time.TheVariants as time
use Rattle.rule_items.specs.Codes.{weekday_at}
use Rattle.rule_items.specs.Years.{year_at, week_at}
use Rattle.rule_items.specs.Dates.{flagged_year, fixed_date, nth_date, easter_date, date_form, date_at, date_offset, months_form, year_months_form, dates_form, monthday_form, monthday_at}
use Rattle.rule_items.specs.Weekdays.{fixed_weekdays, holiday_form, weekday_form, weekday_item_at}
use Rattle.rule_items.specs.Spans.{fixed_time, variable_time, time_form, time_at, span_at}

-- two meanings: what is not the first is the second
pub one_left : (n : ℕ) → n ≤ 1 → (n ≡ 0 → ⊥) → n ≡ 1
one_left n h i = omega arith

-- a code that was read whole, and has a meaning
pub kind_kept : (s : List ℕ) (at : ℕ) (r : Reading ℕ) → Number (Ok r) s at 2 0 3 NoMeaning → r.item ≤ 2 → Number (Ok r) s at 2 0 2 NoMeaning
kind_kept s at r n h = coded s 2 0 2 3 (omega arith) at r n (omega arith) h

pub weekday_kept : (s : List ℕ) (at : ℕ) (r : Reading ℕ) → Number (Ok r) s at 3 0 7 NoMeaning → r.item ≤ 6 → Number (Ok r) s at 3 0 6 NoMeaning
weekday_kept s at r n h = coded s 3 0 6 7 (omega arith) at r n (omega arith) h

-- A refused reading reads nothing more: each item stays refused, by its form where it has forms.
module _ (s : List ℕ) where
  pub year-stays : Stays (year_at s)
  unfolding year_at number_of read_at
  year-stays c b = refl

  pub week-stays : Stays (week_at s)
  unfolding week_at number_of read_at
  week-stays c b = refl

  pub fixed-date-stays : Stays (fixed_date s)
  unfolding fixed_date flagged_year number_of read_at
  fixed-date-stays c b = refl

  pub date-form-stays : (n : ℕ) → Stays (date_form s n)
  unfolding nth_date easter_date flagged_year number_of signed_at read_at
  date-form-stays zero c b = fixed-date-stays c b
  date-form-stays (suc zero) c b = refl
  date-form-stays (suc (suc n)) c b = refl

  pub date-stays : Stays (date_at s)
  unfolding date_at number_of read_at
  date-stays c b = fixed-date-stays c b

  pub offset-stays : (edition : ℕ) → Stays (date_offset s edition)
  unfolding date_offset signed_at read_at
  offset-stays edition c b = rw (date-stays c b) refl

  pub months-stays : Stays (months_form s)
  unfolding months_form number_of read_at
  months-stays c b = refl

  pub monthday-form-stays : (edition n : ℕ) → Stays (monthday_form s edition n)
  unfolding year_months_form dates_form number_of read_at
  monthday-form-stays edition zero c b = months-stays c b
  monthday-form-stays edition (suc zero) c b = refl
  monthday-form-stays edition (suc (suc n)) c b = rw (offset-stays edition c b) (offset-stays edition c b)

  pub monthday-stays : (edition : ℕ) → Stays (monthday_at s edition)
  unfolding monthday_at number_of read_at
  monthday-stays edition c b = months-stays c b

  pub weekday-form-stays : (n : ℕ) → Stays (weekday_form s n)
  unfolding fixed_weekdays holiday_form number_of signed_at read_at
  weekday-form-stays zero c b = refl
  weekday-form-stays (suc n) c b = refl

  pub weekday-item-stays : Stays (weekday_item_at s)
  unfolding weekday_item_at fixed_weekdays number_of signed_at read_at
  weekday-item-stays c b = refl

  pub time-form-stays : (n : ℕ) → Stays (time_form s n)
  unfolding fixed_time variable_time number_of signed_at read_at
  time-form-stays zero c b = refl
  time-form-stays (suc n) c b = refl

  pub time-stays : Stays (time_at s)
  unfolding time_at fixed_time number_of read_at
  time-stays c b = refl

  pub span-stays : Stays (span_at s)
  unfolding span_at
  span-stays c b = rw (time-stays c b) (time-stays c b)

module _ (s : List ℕ) (p : Place) where
  pub year-made : (a b c : Read ℕ) → a ≡ number_at s p 14 1900 9999 PastLimits → b ≡ number_at s a.place 14 1900 9999 PastLimits → c ≡ number_at s b.place 14 1 9999 PastLimits
      → record { item = record { start = a.item; end = b.item; step = c.item }; place = c.place } ≡ year_at s p
  unfolding year_at
  year-made a b c e f g = rw (g, f, e)

  pub week-made : (a b c : Read ℕ) → a ≡ number_at s p 6 1 53 PastLimits → b ≡ number_at s a.place 6 1 53 PastLimits → c ≡ number_at s b.place 6 1 53 PastLimits
      → record { item = record { start = a.item; end = b.item; step = c.item }; place = c.place } ≡ week_at s p
  unfolding week_at
  week-made a b c e f g = rw (g, f, e)

  pub flagged-made : (f y : Read ℕ) → f ≡ number_at s p 1 0 1 PastLimits → y ≡ number_at s f.place 14 (1900 * f.item) (9999 * f.item) PastLimits → y ≡ flagged_year s p
  unfolding flagged_year
  flagged-made f y e g = rw (g, e)

  pub fixed_made : (y m d : Read ℕ) → y ≡ flagged_year s p → m ≡ number_at s y.place 4 1 12 PastLimits → d ≡ number_at s m.place 5 1 31 PastLimits
      → record { item = date.Fixed y.item m.item d.item; place = d.place } ≡ fixed_date s p
  unfolding fixed_date
  fixed_made y m d e f g = rw (g, f, e)

  pub nth-made : (y m d : Read ℕ) (n : Read ℤ) → y ≡ flagged_year s p → m ≡ number_at s y.place 4 1 12 PastLimits → d ≡ weekday_at s m.place
      → n ≡ signed_at s d.place 4 8 → mag n.item < 2 ^ 15
      → record { item = date.Weekday y.item m.item d.item (to_z w16 (of_z w16 n.item)); place = n.place } ≡ nth_date s p
  unfolding nth_date
  nth-made y m d n e f g i h = rw (same16 n.item h, i, g, f, e)

  pub easter-made : (y : Read ℕ) → y ≡ flagged_year s p → record { item = date.Easter y.item; place = y.place } ≡ easter_date s p
  unfolding easter_date
  easter-made y e = rw e

  pub offset_made : (edition : ℕ) (d : Read Date) (o : Read ℤ) → d ≡ date_at s p → o ≡ signed_at s d.place 10 366 → mag o.item < 2 ^ 15
      → record { item = record { date = d.item; offset = to_z w16 (of_z w16 o.item) }; place = o.place } ≡ date_offset s edition p
  unfolding date_offset
  offset_made edition d o e f h = rw (same16 o.item h, f, e)

  pub months-made : (a b : Read ℕ) → a ≡ number_at s p 4 1 12 PastLimits → b ≡ number_at s a.place 4 1 12 PastLimits
      → record { item = record { form = Months a.item b.item }; place = b.place } ≡ months_form s p
  unfolding months_form
  months-made a b e f = rw (f, e)

  pub year-months-made : (y a b : Read ℕ) → y ≡ number_at s p 14 1900 9999 PastLimits → a ≡ number_at s y.place 4 1 12 PastLimits → b ≡ number_at s a.place 4 1 12 PastLimits
      → record { item = record { form = YearMonths y.item a.item b.item }; place = b.place } ≡ year_months_form s p
  unfolding year_months_form
  year-months-made y a b e f g = rw (g, f, e)

  pub dates-made : (edition : ℕ) (a b : Read DateOffset) → a ≡ date_offset s edition p → b ≡ date_offset s edition a.place
      → record { item = record { form = Dates a.item b.item }; place = b.place } ≡ dates_form s edition p
  unfolding dates_form
  dates-made edition a b e f = rw (f, e)

  pub weekdays-made : (a b f g : Read ℕ) (o : Read ℤ) → a ≡ weekday_at s p → b ≡ weekday_at s a.place → f ≡ number_at s b.place 5 0 31 PastLimits
      → g ≡ number_at s f.place 5 0 31 PastLimits → o ≡ signed_at s g.place 10 366 → mag o.item < 2 ^ 15
      → record { item = record { form = range.Fixed a.item b.item f.item g.item (to_z w16 (of_z w16 o.item)) }; place = o.place } ≡ fixed_weekdays s p
  unfolding fixed_weekdays
  weekdays-made a b f g o e1 e2 e3 e4 e5 h = rw (same16 o.item h, e5, e4, e3, e2, e1)

  pub holiday-made : (f : Read ℕ) (o : Read ℤ) → f ≡ number_at s p 1 0 1 PastLimits → o ≡ signed_at s f.place 10 366 → mag o.item < 2 ^ 15
      → record { item = record { form = range.Holiday (eqb f.item 1) (to_z w16 (of_z w16 o.item)) }; place = o.place } ≡ holiday_form s p
  unfolding holiday_form
  holiday-made f o e g h = rw (same16 o.item h, g, e)

  pub fixed-time-made : (m : Read ℕ) → m ≡ number_at s p 12 0 2880 PastLimits → record { item = time.Fixed m.item; place = m.place } ≡ fixed_time s p
  unfolding fixed_time
  fixed-time-made m e = rw e

  pub variable-time-made : (v : Read ℕ) (o : Read ℤ) → v ≡ number_at s p 2 0 3 PastLimits → o ≡ signed_at s v.place 12 1440 → mag o.item < 2 ^ 15
      → record { item = time.Variable v.item (to_z w16 (of_z w16 o.item)); place = o.place } ≡ variable_time s p
  unfolding variable_time
  variable-time-made v o e g h = rw (same16 o.item h, g, e)

  pub span-made : (a b : Read Time) → a ≡ time_at s p → b ≡ time_at s a.place → record { item = record { start = a.item; end = b.item }; place = b.place } ≡ span_at s p
  unfolding span_at
  span-made a b e f = rw (f, e)
