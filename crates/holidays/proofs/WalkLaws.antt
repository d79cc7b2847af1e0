-- The walk over months: what is left to find from a month with some days passed is what was to be found from the start.
-- Assumes nothing.
use mathlib.Core.Path.{◌≡◌, ap, sym, ◌∙◌, subst}
use mathlib.Core.Bool.{true, false}
use mathlib.Core.List.{List}
use Rattle.std.specs.Prelude.{Some, None}
use Prim.Native.Nat.{ℕ, ◌+◌, ◌-◌, ◌≤◌, ◌<◌}
use native.Mathlib.Omega.{arith}
use lib.Count.{count_leading_zeros}
use borrow.Author.Tests.{le-leb, lt-ltb}
use Rattle.bits.specs.Bits.{bits, bit_at}
use Rattle.calendar.specs.Calendar.{leap, month_length, before_year, day_number, Valid, date_of}
use Rattle.calendar.specs.declared.Date.{Date}
use Rattle.calendar.proofs.Days.{length_high}
use Rattle.calendar.proofs.Dates.{date_of-number}
use Rattle.holiday_image.specs.Image.{first_year, year_count, month_bit, has_year, names, sound}
use Rattle.holiday_image.specs.Parts.{InYears}
use Rattle.holiday_image.proofs.Laws.{sum-high}
use Rattle.holiday_image.proofs.Named.{zero_bit, named-real}
use Rattle.holidays.specs.Answers.{first_from}
use Rattle.holidays.specs.Parts.{Passed}
use Rattle.holidays.proofs.BitLaws.{FirstDay, first-day}
use Rattle.holidays.proofs.SearchLaws.{Clear, from-skip, from_on, from-none}
use Rattle.holidays.proofs.DayLaws.{number, number_is, number_of, under, start_is, years-up, day-before, month-end, year-end, days-clear, not-before, before, too-early, too-late, unset, set-in}

-- p days of month m of year y have passed since day n, and no holiday among them
pub record Here (s : List ℕ) (n y m p : ℕ) : Type 0 where
  pub from : first_year s ≤ y
  pub month_low : 1 ≤ m
  pub month_high : m ≤ 12
  pub passed : p ≤ month_length (leap y) m
  pub same : first_from s n ≡ first_from s (number y m p)

pub begin : (s : List ℕ) (d : Date) (f : ℕ) → f ≡ first_year s → f ≤ d.year → Passed d → Here s (day_number d) d.year d.month d.day
begin s d f e h t =
    record { from = omega arith; month_low = t.month_low; month_high = t.month_high; passed = t.day_high; same = ap (first_from s) (number_of d) }

has : (s : List ℕ) (y : ℕ) → first_year s ≤ y → y < first_year s + year_count s → has_year s y ≡ true
unfolding has_year
has s y h l = rw (le-leb (first_year s) y h, lt-ltb y (first_year s + year_count s) l)

module _ (s : List ℕ) (n y m p : ℕ) (h : Here s n y m p) where
  pub passed-few : p ≤ 31
  passed-few = omega (arith, h.passed, length_high (leap y) m h.month_low h.month_high)

  pub in-years : y < first_year s + year_count s → InYears s y m
  in-years u = record { from = h.from; upto = u; month_low = h.month_low; month_high = h.month_high }

  -- no bit is left: the month is done
  pub month-done : (v : ℕ) → sound s ≡ true → y < first_year s + year_count s → v ≡ bits s (month_bit (first_year s) y m + p) (31 - p) → v ≡ 0
      → first_from s n ≡ first_from s (number y (m + 1) 0)
  month-done v e u f z =
      h.same
      ∙ from-skip s (number y m p) (number y m (month_length (leap y) m))
      (omega (arith, number_is y m p, number_is y m (month_length (leap y) m), h.passed))
      (under y m (month_length (leap y) m) (omega (arith, sum-high s e)) h.month_high (omega arith))
      (days-clear s y m p (month_length (leap y) m) h.month_low h.month_high (omega arith) none)
      ∙ ap (first_from s) (month-end y m)
    where
      none : (d : ℕ) → p < d → d ≤ month_length (leap y) m → names s (record { year = y; month = m; day = d }) ≡ false
      none d l k =
          let q : month_bit (first_year s) y m + p + (d - 1 - p) ≡ month_bit (first_year s) y m + (d - 1) = omega arith in
          unset s y m d
          (subst (λ (i : ℕ). bit_at s i ≡ 0) q
          (zero_bit s (month_bit (first_year s) y m + p) (31 - p) (d - 1 - p) (sym f ∙ z)
          (omega (arith, length_high (leap y) m h.month_low h.month_high))))

  -- a bit is left: the first of them is the answer
  pub found : (v : ℕ) → sound s ≡ true → y < first_year s + year_count s → v ≡ bits s (month_bit (first_year s) y m + p) (31 - p) → (v ≡ 0 → ⊥)
      → Some (record { year = y; month = m; day = count_leading_zeros 32 v }) ≡ first_from s n
  found v e u f z = sym (made (count_leading_zeros 32 v) (first-day s (month_bit (first_year s) y m) p v passed-few f (omega arith)))
    where
      made : (d : ℕ) → FirstDay s (month_bit (first_year s) y m) p d → first_from s n ≡ Some (record { year = y; month = m; day = d })
      made d t =
          let named : names s (record { year = y; month = m; day = d }) ≡ true = set-in s y m d (has s y h.from u) t.set in
          let real : d ≤ month_length (leap y) m = named-real s (record { year = y; month = m; day = d }) e named h.month_low h.month_high (omega (arith, t.later)) t.inside in
          let valid : Valid (record { year = y; month = m; day = d }) = record { month_low = h.month_low; month_high = h.month_high; day_low = omega (arith, t.later); day_high = real } in
          let is : record { year = y; month = m; day = d } ≡ date_of (number y m d) = date_of-number (record { year = y; month = m; day = d }) valid (number y m d) (omega (arith, number_is y m d, t.later)) (number_of (record { year = y; month = m; day = d })) in
          let last : number y m d - 1 ≡ number y m (d - 1) = omega (arith, number_is y m d, number_is y m (d - 1), t.later) in
          h.same
          ∙ from_on s (number y m p) (number y m d)
          (omega (arith, number_is y m d, number_is y m p, t.later))
          (under y m d (omega (arith, sum-high s e)) h.month_high real)
          (subst (Clear s (number y m p)) (sym last)
          (days-clear s y m p (d - 1) h.month_low h.month_high (omega arith) (λ k l o. unset s y m k (t.clear k l (omega (arith, t.later))))))
          (subst (λ (x : Date). names s x ≡ true) is named)
          ∙ ap Some (sym is)

  -- behind the last year nothing is left
  pub ended : first_year s + year_count s ≤ y → None ≡ first_from s n
  ended u = sym (h.same ∙ from-none s (number y m p) none)
    where
      none : (j : ℕ) → number y m p < j → names s (date_of j) ≡ false
      none j l = let k = not-before j y (omega (arith, number_is y m p)) in too-late s (date_of j) (omega arith)

-- behind December a year is done
pub year-done : (s : List ℕ) (n y m p : ℕ) → m ≡ 13 → p ≡ 0 → first_from s n ≡ first_from s (number y m p) → first_from s n ≡ first_from s (before_year (y + 1))
year-done s n y m p e f h =
    h ∙ ap (λ (k : ℕ). first_from s (number y k p)) e ∙ ap (λ (k : ℕ). first_from s (number y 13 k)) f ∙ ap (first_from s) (year-end y ∙ start_is (y + 1))

pub next-year : (s : List ℕ) (n y m p : ℕ) → Here s n y m p → first_from s (number y m p) ≡ first_from s (before_year (y + 1)) → Here s n (y + 1) 1 0
next-year s n y m p h e =
    record {
      from = omega (arith, h.from);
      month_low = omega arith;
      month_high = omega arith;
      passed = omega arith;
      same = h.same ∙ e ∙ ap (first_from s) (sym (start_is (y + 1)));
    }

-- a date before the first year finds what the first year's beginning finds
pub start-early : (s : List ℕ) (d : Date) (f : ℕ) → sound s ≡ true → f ≡ first_year s → d.year < f → 1 ≤ d.day → Passed d
    → first_from s (day_number (record { year = f; month = 1; day = 0 })) ≡ first_from s (day_number d)
start-early s d f e g h i t =
    ap (first_from s) (number_of (record { year = f; month = 1; day = 0 }))
    ∙ sym
    (from-skip s (day_number d) (number f 1 0)
    (omega (arith, start_is f, day-before d f (record { month_low = t.month_low; month_high = t.month_high; day_low = i; day_high = t.day_high }) h))
    (omega (arith, start_is f, years-up f 10000 (omega (arith, sum-high s e))))
    (record { clear = λ j l u. early j l u }))
  where
    early : (j : ℕ) → day_number d < j → j ≤ number f 1 0 → names s (date_of j) ≡ false
    early j l u = let k = before j f (omega arith) (omega (arith, start_is f)) in too-early s (date_of j) (omega arith)

pub start-passed : (f : ℕ) → Passed (record { year = f; month = 1; day = 0 })
start-passed f = record { month_low = omega arith; month_high = omega arith; day_high = omega arith }

pub valid-passed : (d : Date) → Valid d → Passed d
valid-passed d v = record { month_low = v.month_low; month_high = v.month_high; day_high = v.day_high }
