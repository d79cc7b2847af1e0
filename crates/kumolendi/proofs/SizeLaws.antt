-- Every value and place fits the lower half of an answer.
use mathlib.Core.Path.{◌≡◌, refl}
use mathlib.Core.Bool.{Bool, true, false, cond}
use mathlib.Core.List.{List}
use Prim.Native.Nat.{ℕ, zero, suc, ◌+◌, ◌-◌, ◌≤◌, ◌<◌}
use native.Mathlib.Omega.{arith}
use lib.Dec.{leb, ltb}
use borrow.Author.Tests.{leb-true, ltb-true, ltb-false}
use lib.ListN.{length, take, length-take, length-map}
use Rattle.std.specs.Prelude.{Some, Ok, Err}
use Rattle.refusals.specs.Numbers.{refused}
use Rattle.refusals.specs.declared.Cause.{Cause}
use Rattle.refusals.specs.declared.Cause.TheVariants.{NoMeaning, PastLimits, BadHolidays, TooManyRanges, NoRoom, BadSchedule}
use Rattle.refusals.specs.declared.Refusal.{Refusal}
use Rattle.bits.specs.Place.{Place, At, Refused}
use Rattle.calendar.specs.Calendar.{leap, before_year, day_number, date_of}
use Rattle.calendar.specs.declared.Date.{Date}
use Rattle.calendar.proofs.Dates.{date_of-valid}
use Rattle.calendar.proofs.Days.{length_high}
use Rattle.rule_image.specs.Reading.{reading, verdict_of, verdict_on}
use Rattle.rule_image.proofs.LimitLaws.{reading-ok}
use Rattle.inputs.proofs.StepLaws.{spot, reading-place}
use Rattle.holiday_image.specs.Image.{names, sound}
use Rattle.dates.specs.Exists.{is_month, is_date}
use Rattle.holidays.specs.Answers.{check_answer, count_to, count_answer, first_among, first_from, first_answer}
use Rattle.holidays.proofs.DayLaws.{before}
use Rattle.ranges.specs.Range.{Range, both}
use Rattle.ranges.specs.Insertion.{add_r}
use Rattle.ranges.specs.Build.{build_r, ends_b, span_of, spans}
use Rattle.ranges.specs.Words.{range_of}
use Rattle.ranges.proofs.Builds.{few-build}
use Rattle.schedule.specs.declared.Schedule.{Schedule}
use Rattle.schedule.specs.Schedules.{made, view, valid, accepted, build_of, addition_of}
use Rattle.schedule.proofs.Answers.{valid-in}
use Rattle.listing.specs.Listing.{listing}
use Rattle.listing.proofs.Tiling.{few-listing}
use Rattle.word_schedules.specs.Stored.{fitted, words_of, stored_in}
use Rattle.kumolendi.specs.Packed.{date_number}
use Rattle.kumolendi.specs.Answers.{Small}
use Rattle.listing.specs.Writing.{listed_in, listing_of}
use Rattle.dates.specs.Answers.{answered}

-- a rule image: at most 32 rules, and a place within the longest image
pub verdict-small : (s : List ℕ) → Small (verdict_on s)
verdict-small s = by (reading s).place (reading-place s).0
  where
    by : (p : Place) → spot p ≤ 50960 → Small (verdict_of p (reading s).item)
    by (At a) h = record { fits = omega (arith, (reading-ok s).count) }
    by (Refused c b) h = record { fits = omega arith }

-- a holiday image is refused as a whole, and so are a month and a date
no-place : {A : Type 0} (p q : Bool) (x : A) (f : Refusal) → Err f ≡ cond p (answered q x) (refused BadHolidays 0) → f.place ≡ 0
no-place true true x f e = absurd (let z : ◌≡◌ {A = ℕ} 0 1 = cc in omega arith)
no-place true false x f e = cc
no-place false q x f e = cc

small-refused : (f : Refusal) → f.place ≡ 0 → Small (Err f)
small-refused f e = record { fits = omega arith }

pub check-small : (s : List ℕ) (f : Refusal) → Err f ≡ check_answer s → Small (Err f)
unfolding check_answer
check-small s f e = small-refused f (no-place (sound s) true tt f e)

pub count-small : (s : List ℕ) (y m : ℕ) (f : Refusal) → Err f ≡ count_answer s y m → Small (Err f)
unfolding count_answer
count-small s y m f e = small-refused f (no-place (sound s) (is_month y m) (count_to s y m 31) f e)

pub first-refused : (s : List ℕ) (x : Date) (f : Refusal) → Err f ≡ first_answer s x → Small (Err f)
unfolding first_answer
first-refused s x f e = small-refused f (no-place (sound s) (is_date x) (first_from s (day_number x)) f e)

-- a date found lies before the year 10000
date-small : (n : ℕ) → 1 ≤ n → n ≤ before_year 10000 → date_number (date_of n) < 4294967296
date-small n l h =
    let v = date_of-valid n l in
    omega (arith, before n 10000 l h, v.month_high, v.day_high, length_high (leap (date_of n).year) (date_of n).month v.month_low v.month_high)

among-small : (s : List ℕ) (n k : ℕ) (d : Date) → n + k ≤ before_year 10000 → first_among s n k ≡ Some d → date_number d < 4294967296
unfolding first_among
among-small s n zero d h e = absurd (let z : ◌≡◌ {A = ℕ} 0 1 = cc in omega arith)
among-small s n (suc k) d h e = by (names s (date_of (suc n))) (among-small s (suc n) k d (omega arith)) e
  where
    by : (q : Bool) → (first_among s (suc n) k ≡ Some d → date_number d < 4294967296) → cond q (Some (date_of (suc n))) (first_among s (suc n) k) ≡ Some d
        → date_number d < 4294967296
    by true f g = let z : date_of (suc n) ≡ d = cc in rw z at (date-small (suc n) (omega arith) (omega arith))
    by false f g = f g

-- no days are left to look at, so that none is found
none_left : (s : List ℕ) (n k : ℕ) (d : Date) → k ≡ 0 → first_among s n k ≡ Some d → date_number d < 4294967296
unfolding first_among
none_left s n zero d h e = absurd (let z : ◌≡◌ {A = ℕ} 0 1 = cc in omega arith)
none_left s n (suc k) d h e = absurd (omega arith)

-- a search never goes beyond the year 9999
pub first_small : (s : List ℕ) (x d : Date) → Ok (Some d) ≡ first_answer s x → date_number d < 4294967296
unfolding first_answer first_from
first_small s x d e = by (sound s) (is_date x) (ltb (before_year 10000) (day_number x)) refl e
  where
    by : (p q b : Bool) → ltb (before_year 10000) (day_number x) ≡ b
        → Ok (Some d) ≡ cond p (answered q (first_among s (day_number x) (before_year 10000 - day_number x))) (refused BadHolidays 0) → date_number d < 4294967296
    by true true true k g =
        none_left s (day_number x) (before_year 10000 - day_number x) d (omega (arith, ltb-true (before_year 10000) (day_number x) k)) (cc)
    by true true false k g =
        among-small s (day_number x) (before_year 10000 - day_number x) d (omega (arith, ltb-false (before_year 10000) (day_number x) k)) (cc)
    by true false b k g = absurd (let z : ◌≡◌ {A = ℕ} 0 1 = cc in omega arith)
    by false q b k g = absurd (let z : ◌≡◌ {A = ℕ} 0 1 = cc in omega arith)

-- at most 64 words
fitted-small : (w : List ℕ) (cells : ℕ) → length w ≤ 64 → Small (fitted w cells)
unfolding fitted
fitted-small w cells h = by (leb (length w) cells)
  where
    by : (q : Bool) → Small (cond q (Ok (length w)) (refused NoRoom (length w)))
    by true = record { fits = omega arith }
    by false = record { fits = omega arith }

-- an answer of at most 64 ranges
stored-small : (l : List Range) (cells : ℕ) → length l ≤ 64 → Small (stored_in (accepted l) cells)
stored-small l cells h = fitted-small (words_of (made l)) cells (omega (arith, length-take (made l).len (made l).words))

refused-small : (c : Cause) (p cells : ℕ) → p ≤ 1 → Small (stored_in (refused c p) cells)
refused-small c p cells h = record { fits = omega arith }

-- a build has at most as many ranges as were given, 64
pub build-small : (given : List ℕ) (k c cells : ℕ) → Small (stored_in (build_of given k c) cells)
build-small given k c cells = by (leb k 2) (leb (length given) 64) refl (ends_b (spans given)) refl
  where
    by : (p q : Bool) → leb (length given) 64 ≡ q → (t : Bool) → ends_b (spans given) ≡ t
        → Small (stored_in (cond p (cond (both q t) (accepted (build_r k c (spans given))) (refused PastLimits 0)) (refused NoMeaning 0)) cells)
    by true true f true g =
        stored-small (build_r k c (spans given)) cells (omega (arith, few-build k c (spans given) g, length-map given span_of, leb-true (length given) 64 f))
    by true true f false g = refused-small PastLimits 0 cells (omega arith)
    by true false f t g = refused-small PastLimits 0 cells (omega arith)
    by false q f t g = refused-small NoMeaning 0 cells (omega arith)

-- a sum of over 64 ranges is refused
pub sum-small : (a b : Schedule) (cells : ℕ) → Small (stored_in (addition_of a b) cells)
sum-small a b cells = by (valid a) (valid b) (leb (length (add_r (view a) (view b))) 64) refl
  where
    by : (p q t : Bool) → leb (length (add_r (view a) (view b))) 64 ≡ t
        → Small (stored_in (cond p (cond q (cond t (accepted (add_r (view a) (view b))) (refused TooManyRanges 0)) (refused BadSchedule 1)) (refused BadSchedule 0)) cells)
    by true true true f = stored-small (add_r (view a) (view b)) cells (leb-true _ _ f)
    by true true false f = refused-small TooManyRanges 0 cells (omega arith)
    by true false t f = refused-small BadSchedule 1 cells (omega arith)
    by false q t f = refused-small BadSchedule 0 cells (omega arith)

-- a listing of at most 64 ranges
pub list-small : (l : List Range) (cells : ℕ) → length l ≤ 64 → Small (listed_in l cells)
list-small l cells h = by (leb (length (listing l)) cells)
  where
    by : (q : Bool) → Small (cond q (Ok (length (listing l))) (refused NoRoom (length (listing l))))
    by true = record { fits = omega (arith, few-listing l h) }
    by false = record { fits = omega (arith, few-listing l h) }

view-few : (s : Schedule) → valid s ≡ true → length (view s) ≤ 64
view-few s f =
    omega (arith, (valid-in s f).0, length-map (take s.len s.words) range_of, length-take s.len s.words)

-- a valid schedule has at most 64 ranges
pub listed_small : (s : Schedule) (cells : ℕ) → Small (listing_of s cells)
listed_small s cells = by (valid s) refl
  where
    by : (p : Bool) → valid s ≡ p → Small (cond p (listed_in (view s) cells) (refused BadSchedule 0))
    by true f = list-small (view s) cells (view-few s f)
    by false f = record { fits = omega arith }
