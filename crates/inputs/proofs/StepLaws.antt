-- Every refusal of a rule image has a cause of 1 to 4, and a place within the longest image: reading on from a place goes no further than the
-- bits of what is read, and refuses for no other cause.
use mathlib.Core.Path.{◌≡◌, refl}
use mathlib.Core.Bool.{Bool, true, false, cond}
use mathlib.Core.List.{List}
use Prim.Native.Nat.{ℕ, zero, suc, ◌+◌, ◌/◌, ◌^◌, ◌≤◌}
use native.Mathlib.Omega.{arith}
use lib.Dec.{ltb}
use lib.IntN.{pos}
use lib.ListN.{length}
use borrow.Author.Tests.{ltb-true, ltb-false}
use Rattle.bits.proofs.ReadLaws.{too-high}
use Rattle.bits.specs.Bits.{field_at}
use Rattle.bits.specs.Signed.{signed_of}
use Rattle.std.specs.Prelude.{Option, Some, None}
use Rattle.refusals.specs.declared.Cause.{Cause}
use Rattle.refusals.specs.declared.Cause.TheVariants.{PastEnd, NoMeaning, PastLimits, NotEnded, BadHolidays, BadEvent, NoDate, TooManyRanges, NoRoom, BadSchedule}
use Rattle.refusals.specs.Numbers as refusals
use Rattle.bits.specs.Place.{Place, At, Refused, Read, judged, read_at, within, at_most, number_of, number_at, signed_at}
use Rattle.rule_items.specs.Codes.{operator_at}
use Rattle.rule_items.specs.Years.{year_at, week_at}
use Rattle.rule_items.specs.Dates.{flagged_year, fixed_date, nth_date, easter_date, date_form, date_at, date_offset, months_form, year_months_form, dates_form, monthday_form, monthday_at}
use Rattle.rule_items.specs.Weekdays.{fixed_weekdays, holiday_form, weekday_form, weekday_item_at}
use Rattle.rule_items.specs.Spans.{fixed_time, variable_time, time_form, time_at, span_at}
use Rattle.rule_image.specs.Listed.{listed}
use Rattle.rule_image.specs.RuleAt.{head_at, counts_at, rule_at}
use Rattle.rule_image.specs.Reading.{sheet_at, fill_count, fill_bits, ended, filled, reading}

-- the bit of a place, refused or not
abbrev pub spot : Place → ℕ
spot (At a) = a
spot (Refused c b) = b

abbrev pub Numbered : Place → Type 0
Numbered (At a) = Unit {0}
Numbered (Refused c b) = (1 ≤ refusals.number c) × (refusals.number c ≤ 4)

record Step (k : ℕ) (p q : Place) : Type 0 where
  pub near : spot q ≤ spot p + k
  pub named : Numbered p → Numbered q

then : {a b : ℕ} {p q r : Place} → Step a p q → Step b q r → Step (a + b) p r
then x y = record { near = omega (arith, x.near, y.near); named = λ n. y.named (x.named n) }

wide : {a b : ℕ} {p q : Place} → a ≤ b → Step a p q → Step b p q
wide h x = record { near = omega (arith, x.near); named = x.named }

-- every cause has a number, and none the number 0
some : (c : Cause) → 1 ≤ refusals.number c
some PastEnd = omega arith
some NoMeaning = omega arith
some PastLimits = omega arith
some NotEnded = omega arith
some BadHolidays = omega arith
some BadEvent = omega arith
some NoDate = omega arith
some TooManyRanges = omega arith
some NoRoom = omega arith
some BadSchedule = omega arith

-- a field of w bits, refused where the image ends or for the cause given
module _ {A : Type 0} (none : A) (right : ℕ → Bool) (means : ℕ → A) (cause : Cause) (w : ℕ) (s : List ℕ) (h : refusals.number cause ≤ 4) where
  picked : (at v : ℕ) (b : Bool) → Step w (At at) (cond {A = Read A} b (record { item = means v; place = At (at + w) }) (record { item = none; place = Refused cause at })).place
  picked at v true = record { near = omega arith; named = λ _. tt }
  picked at v false = record { near = omega arith; named = λ _. (some cause, h) }

  of_field : (at : ℕ) (x : Option ℕ) → Step w (At at) (judged none right means PastEnd cause w at x).place
  unfolding judged
  of_field at (Some v) = picked at v (right v)
  of_field at None = record { near = omega arith; named = λ _. (omega arith, omega arith) }

  of-read : (p : Place) → Step w p (read_at none right means PastEnd cause w s p).place
  unfolding read_at
  of-read (At at) = of_field at (field_at s at w)
  of-read (Refused c b) = record { near = omega arith; named = λ k. k }

-- a reader takes at most k bits
Takes : {A : Type 0} → ℕ → (Place → Read A) → Type 0
Takes k f = (p : Place) → Step k p (f p).place

module _ (s : List ℕ) where
  number : (w lo hi : ℕ) (cause : Cause) → refusals.number cause ≤ 4 → (p : Place) → Step w p (number_at s p w lo hi cause).place
  unfolding number_of
  number w lo hi cause h p = of-read 0 (within lo hi) (λ (v : ℕ). v) cause w s h p

  by2 : (w lo hi : ℕ) (p : Place) → Step w p (number_at s p w lo hi NoMeaning).place
  by2 w lo hi p = number w lo hi NoMeaning (omega arith) p

  by3 : (w lo hi : ℕ) (p : Place) → Step w p (number_at s p w lo hi PastLimits).place
  by3 w lo hi p = number w lo hi PastLimits (omega arith) p

  signed : (w limit : ℕ) (p : Place) → Step w p (signed_at s p w limit).place
  unfolding signed_at
  signed w limit p =
      of-read (pos 0) (λ (v : ℕ). at_most limit (signed_of (2 ^ w) v)) (signed_of (2 ^ w)) PastLimits w s (omega arith) p

  year : Takes 42 (year_at s)
  unfolding Takes year_at
  year p = then (by3 14 1900 9999 p) (then (by3 14 1900 9999 _) (by3 14 1 9999 _))

  week : Takes 18 (week_at s)
  unfolding Takes week_at
  week p = then (by3 6 1 53 p) (then (by3 6 1 53 _) (by3 6 1 53 _))

  flagged : Takes 15 (flagged_year s)
  unfolding Takes flagged_year
  flagged p = then (by3 1 0 1 p) (by3 14 _ _ _)

  fixed : Takes 24 (fixed_date s)
  unfolding Takes fixed_date
  fixed p = then (flagged p) (then (by3 4 1 12 _) (by3 5 1 31 _))

  nth : Takes 26 (nth_date s)
  unfolding Takes nth_date
  nth p = then (flagged p) (then (by3 4 1 12 _) (then (by2 3 0 6 _) (signed 4 8 _)))

  easter : Takes 15 (easter_date s)
  unfolding Takes easter_date
  easter p = flagged p

  date-form : (n : ℕ) → Takes 26 (date_form s n)
  unfolding Takes
  date-form zero p = wide (omega arith) (fixed p)
  date-form (suc zero) p = nth p
  date-form (suc (suc n)) p = wide (omega arith) (easter p)

  date : Takes 28 (date_at s)
  unfolding Takes date_at
  date p = then (by2 2 0 2 p) (date-form (number_at s p 2 0 2 NoMeaning).item _)

  offset : (edition : ℕ) → Takes 38 (date_offset s edition)
  unfolding Takes date_offset
  offset edition p = then (date p) (signed 10 366 _)

  months : Takes 8 (months_form s)
  unfolding Takes months_form
  months p = then (by3 4 1 12 p) (by3 4 1 12 _)

  year-months : Takes 22 (year_months_form s)
  unfolding Takes year_months_form
  year-months p = then (by3 14 1900 9999 p) (then (by3 4 1 12 _) (by3 4 1 12 _))

  dates : (edition : ℕ) → Takes 76 (dates_form s edition)
  unfolding Takes dates_form
  dates edition p = then (offset edition p) (offset edition _)

  monthday-form : (edition n : ℕ) → Takes 76 (monthday_form s edition n)
  unfolding Takes
  monthday-form edition zero p = wide (omega arith) (months p)
  monthday-form edition (suc zero) p = wide (omega arith) (year-months p)
  monthday-form edition (suc (suc n)) p = dates edition p

  monthday : (edition : ℕ) → Takes 78 (monthday_at s edition)
  unfolding Takes monthday_at
  monthday edition p = then (by2 2 0 2 p) (monthday-form edition (number_at s p 2 0 2 NoMeaning).item _)

  weekdays : Takes 26 (fixed_weekdays s)
  unfolding Takes fixed_weekdays
  weekdays p = then (by2 3 0 6 p) (then (by2 3 0 6 _) (then (by3 5 0 31 _) (then (by3 5 0 31 _) (signed 10 366 _))))

  holiday : Takes 11 (holiday_form s)
  unfolding Takes holiday_form
  holiday p = then (by3 1 0 1 p) (signed 10 366 _)

  weekday-form : (n : ℕ) → Takes 26 (weekday_form s n)
  unfolding Takes
  weekday-form zero p = weekdays p
  weekday-form (suc n) p = wide (omega arith) (holiday p)

  weekday : Takes 27 (weekday_item_at s)
  unfolding Takes weekday_item_at
  weekday p = then (by2 1 0 1 p) (weekday-form (number_at s p 1 0 1 NoMeaning).item _)

  fixed-time : Takes 12 (fixed_time s)
  unfolding Takes fixed_time
  fixed-time p = by3 12 0 2880 p

  variable-time : Takes 14 (variable_time s)
  unfolding Takes variable_time
  variable-time p = then (by3 2 0 3 p) (signed 12 1440 _)

  time-form : (n : ℕ) → Takes 14 (time_form s n)
  unfolding Takes
  time-form zero p = wide (omega arith) (fixed-time p)
  time-form (suc n) p = variable-time p

  time : Takes 15 (time_at s)
  unfolding Takes time_at
  time p = then (by2 1 0 1 p) (time-form (number_at s p 1 0 1 NoMeaning).item _)

  span : Takes 30 (span_at s)
  unfolding Takes span_at
  span p = then (time p) (time _)

-- k bits for each of n items
abbrev times : ℕ → ℕ → ℕ
times k zero = 0
times k (suc n) = times k n + k

times-up : (k n m : ℕ) → n ≤ m → times k n ≤ times k m
times-up k zero m h = omega arith
times-up k (suc n) zero h = absurd (omega arith)
times-up k (suc n) (suc m) h = omega (arith, times-up k n m (omega arith))

module _ {A : Type 0} (k : ℕ) (f : Place → Read A) (g : Takes k f) (room : List A) (p : Place) where
  counted : (n : ℕ) → Step (times k n) p (listed f room p n).place
  unfolding listed Takes
  counted zero = record { near = omega arith; named = λ h. h }
  counted (suc n) = then (counted n) (g (listed f room p n).place)

  -- so many at most
  upto : (n m : ℕ) → n ≤ m → Step (times k m) p (listed f room p n).place
  upto n m h = wide (times-up k n m h) (counted n)

right-top : (lo hi v : ℕ) → within lo hi v ≡ true → v ≤ hi
right-top lo hi v e = by (ltb hi v) refl
  where
    by : (b : Bool) → ltb hi v ≡ b → v ≤ hi
    by true q = let f : within lo hi v ≡ false = too-high lo hi v (ltb-true hi v q) in let z : ◌≡◌ {A = ℕ} 0 1 = cc in absurd (omega arith)
    by false q = ltb-false hi v q

-- a number read is at most its limit, and 0 where it is refused
module _ (lo hi : ℕ) (cause : Cause) (w : ℕ) (s : List ℕ) where
  low-pick : (at v : ℕ) (b : Bool) → within lo hi v ≡ b → (cond {A = Read ℕ} b (record { item = v; place = At (at + w) }) (record { item = 0; place = Refused cause at })).item ≤ hi
  low-pick at v true e = right-top lo hi v e
  low-pick at v false e = omega arith

  low_field : (at : ℕ) (x : Option ℕ) → (judged 0 (within lo hi) (λ (v : ℕ). v) PastEnd cause w at x).item ≤ hi
  unfolding judged
  low_field at (Some v) = low-pick at v (within lo hi v) refl
  low_field at None = omega arith

  low : (p : Place) → (number_at s p w lo hi cause).item ≤ hi
  unfolding number_of read_at
  low (At at) = low_field at (field_at s at w)
  low (Refused n b) = omega arith

module _ (s : List ℕ) where
  head : Takes 12 (head_at s)
  unfolding Takes head_at operator_at
  head p = then (by2 s 2 0 2 p) (then (by2 s 2 0 2 _) (by3 s 8 0 255 _))

  counts : Takes 20 (counts_at s)
  unfolding Takes counts_at
  counts p = then (by3 s 4 0 8 p) (then (by3 s 4 0 8 _) (then (by3 s 4 0 8 _) (then (by3 s 4 0 8 _) (by3 s 4 0 8 _))))

  rule : (edition : ℕ) → Takes 1592 (rule_at s edition)
  unfolding Takes rule_at counts_at
  rule edition p =
      then (head p)
      (then (counts _)
      (then (upto 42 (year_at s) (year s) _ _ _ 8 (low 0 8 PastLimits 4 s _))
      (then (upto 78 (monthday_at s edition) (monthday s edition) _ _ _ 8 (low 0 8 PastLimits 4 s _))
      (then (upto 18 (week_at s) (week s) _ _ _ 8 (low 0 8 PastLimits 4 s _))
      (then (upto 27 (weekday_item_at s) (weekday s) _ _ _ 8 (low 0 8 PastLimits 4 s _)) (upto 30 (span_at s) (span s) _ _ _ 8 (low 0 8 PastLimits 4 s _)))))))

  sheet : Step 50960 (At 0) (sheet_at s).place
  unfolding sheet_at
  sheet =
      then (by2 s 4 1 1 (At 0))
      (then (by2 s 6 0 0 _)
      (then (by3 s 6 0 32 _) (upto 1592 (rule_at s _) (rule _) _ _ _ 32 (low 0 32 PastLimits 6 s _))))

  fill : (p : Place) (k : ℕ) → Step k p (fill_bits s p k)
  unfolding fill_bits
  fill p zero = record { near = omega arith; named = λ h. h }
  fill p (suc k) = wide {a = k + 1} (omega arith) (then (fill p k) (number s 1 0 0 NotEnded (omega arith) _))

  stop : (p : Place) → Step 0 p (ended s p)
  unfolding ended
  stop (Refused n b) = record { near = omega arith; named = λ h. h }
  stop (At a) = by (ltb (a / 8) (length s))
    where
      by : (b : Bool) → Step 0 (At a) (cond b (Refused NotEnded a) (At a))
      by true = record { near = omega arith; named = λ _. (omega arith, omega arith) }
      by false = record { near = omega arith; named = λ _. tt }

  -- the fill ends with its byte, so that it stays within whole bytes
  to-byte : (p : Place) → spot p ≤ 50960 → Numbered p → (spot (filled s p) ≤ 50960) × Numbered (filled s p)
  unfolding filled
  to-byte p h n =
      let x = then (fill p (fill_count p)) (stop (fill_bits s p (fill_count p))) in
      (by p h x.near, x.named n)
    where
      by : (p : Place) {q : ℕ} → spot p ≤ 50960 → q ≤ spot p + (fill_count p + 0) → q ≤ 50960
      by (At a) h k = omega arith
      by (Refused m b) h k = omega arith

  pub reading-place : (spot (reading s).place ≤ 50960) × Numbered (reading s).place
  unfolding reading
  reading-place = to-byte (sheet_at s).place sheet.near (sheet.named tt)
