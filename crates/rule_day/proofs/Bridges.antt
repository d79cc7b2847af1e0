-- What the reader of images ensures of a rule is all that the date filter asks.
use mathlib.Core.Path.{refl, subst}
use mathlib.Core.List.{List, [], ◌∷◌}
use Prim.Native.Nat.{ℕ, zero, suc, ◌≤◌, ◌<◌}
use native.Mathlib.Omega.{arith}
use lib.IntN.{ℤ, pos, negsuc, nat_abs}
use lib.ListN.{length, take, get_or, length-take}
use lib.Seq.{get_or-take}
use Rattle.std.specs.Prelude.{All}
use Rattle.std.proofs.lemmas.List.{get_or_default}
use Rattle.bits.specs.Signed.{Below}
use Rattle.rules.specs.declared.Date.{Date}
use Rattle.rules.specs.declared.Date.TheVariants as date
use Rattle.rules.specs.declared.DateOffset.{DateOffset}
use Rattle.rules.specs.declared.Monthday.{Monthday}
use Rattle.rules.specs.declared.Monthday.TheVariants.{Months, YearMonths, Dates}
use Rattle.rules.specs.declared.WeekdayRange.{WeekdayRange}
use Rattle.rules.specs.declared.WeekdayRange.TheVariants as range
use Rattle.rules.specs.declared.Rule.{Rule}
use Rattle.rules.specs.declared.Sheet.{Sheet}
use Rattle.rule_image.specs.Limits as image
use Rattle.date_bounds.specs.Bounds as bounds
use Rattle.date_lists.specs.Lists as lists
use Rattle.date_filter.specs.Filter as filter
use Rattle.reading.specs.Agreement.{Every}

-- what each counted place keeps, the list of the counted keeps
pub all-counted : {A : Type 0} (P Q : A → Type 0) (none : A) → ((a : A) → P a → Q a) → (n : ℕ) (l : List A) → image.Counted P none n l → All Q (take n l)
all-counted P Q none f n l c = λ k d h.
    let t = length-take n l in
    let u : k < n = omega arith in
    let v : k < length l = omega arith in
    rw (get_or-take n l k d u) (subst Q (get_or_default l k none d v) (f (get_or l k none) (c.good k u)))

-- a year that may be missing is 0 or in range
year-ok : (y : ℕ) → image.MaybeYear y → bounds.YearOk y
year-ok y image.without = record { low = λ f. absurd (f refl); high = omega arith }
year-ok y (image.with-year b) = record { low = λ f. b.0; high = b.1 }

month-ok : (m : ℕ) → image.Between 1 12 m → bounds.MonthOk m
month-ok m b = record { low = b.0; high = b.1 }

-- -8 to 7 are at most 8 from 0
nth_ok : (z : ℤ) → Below 8 z → nat_abs z ≤ 8
nth_ok (pos n) h = omega arith
nth_ok (negsuc n) h = omega arith

form-ok : (d : Date) → image.DateOk d → bounds.FormOk d
form-ok (date.Fixed y m d) h = (year-ok y h.0, month-ok m h.1.0, h.1.1.0, h.1.1.1)
form-ok (date.Weekday y m w n) h = (year-ok y h.0, month-ok m h.1.0, omega (arith, h.1.1.0), nth_ok n h.1.1.1)
form-ok (date.Easter y) h = year-ok y h

bound-ok : (d : DateOffset) → image.DateOffsetOk d → bounds.BoundOk d
bound-ok d h = record { date = record { ok = form-ok d.date h.0 }; offset = h.1 }

monthday-ok : (m : Monthday) → image.MonthdayFormOk m → lists.FormOk m
monthday-ok (Months a b) h = tt
monthday-ok (YearMonths y a b) h = (month-ok a h.1.0, month-ok b h.1.1)
monthday-ok (Dates a b) h = (bound-ok a h.0, bound-ok b h.1)

weekday-ok : (w : WeekdayRange) → image.WeekdayFormOk w → filter.FormOk w
weekday-ok (range.Fixed a b f g z) h = h.1.1.1.1
weekday-ok (range.Holiday s z) h = h

-- THEOREM: list by list and item by item, each limit of the filter is one of the image's
pub filter-ok : (r : Rule) → image.RuleOk r → filter.RuleOk r
filter-ok r h = record {
  years = all-counted image.YearOk lists.YearItemOk _ (λ a p. record { step = p.1.1.0 }) _ _ h.years;
  monthdays = all-counted image.MonthdayOk lists.MonthdayOk _ (λ a p. record { form = monthday-ok a.form p }) _ _ h.monthdays;
  weeks = all-counted image.WeekOk lists.WeekItemOk _ (λ a p. record { step = p.1.1.0 }) _ _ h.weeks;
  weekdays = all-counted image.WeekdayOk filter.WeekdayOk _ (λ a p. record { form = weekday-ok a.form p }) _ _ h.weekdays;
  counts = (h.year_count, h.monthday_count, h.week_count, h.weekday_count);
}

-- what each counted place keeps, the list of the counted keeps
every-counted : {A : Type 0} (P : A → Type 0) (none : A) (n : ℕ) (l : List A) → image.Counted P none n l → Every P (take n l)
every-counted P none zero l c = tt
every-counted P none (suc n) [] c = tt
every-counted P none (suc n) (a ∷ l) c =
    (c.good 0 (omega arith), every-counted P none n l (record { good = λ i u. c.good (suc i) (omega arith); rest = λ i u. c.rest (suc i) (omega arith) }))

-- THEOREM: so do the rules of a sheet
pub sheet-rules : (s : Sheet) → image.SheetOk s → Every image.RuleOk (take s.count s.rules)
sheet-rules s h = every-counted image.RuleOk _ s.count s.rules h.rules
