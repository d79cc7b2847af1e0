-- Every read sheet keeps its limits: a refused image has no rules, and in an accepted one each field was accepted, which is shown back from its end.
use mathlib.Core.Path.{◌≡◌, refl, ◌∙◌}
use mathlib.Core.List.{List}
use Prim.Native.Nat.{ℕ, zero, suc, ◌*◌, ◌<◌, ◌≤◌}
use native.Mathlib.Omega.{arith}
use lib.Dec.{ltb}
use lib.ListN.{length, get_or, set, replicate, length-set, length-replicate, get_or-replicate, get_or-eq_default}
use lib.Seq.{get_or-set_same, get_or-set_other}
use borrow.Author.Tests.{ltb-true, ltb-false}
use mathlib.Core.Bool.{Bool, true, false}
use Rattle.refusals.specs.declared.Cause.TheVariants.{NoMeaning, PastLimits}
use Rattle.bits.specs.Place.{Place, At, Refused, Read, number_at}
use Rattle.bits.proofs.ReadLaws.{Stands, number_in, signed-in, signed_below}
use Rattle.rules.specs.Nothing.{no_year, no_monthday, no_week, no_weekday, no_span, no_rule}
use Rattle.rule_items.specs.Codes.{operator_at}
use Rattle.rule_items.specs.Years.{year_at, week_at}
use Rattle.rule_items.specs.Dates.{flagged_year, fixed_date, nth_date, easter_date, date_form, date_at, date_offset, months_form, year_months_form, dates_form, monthday_form, monthday_at}
use Rattle.rule_items.specs.Weekdays.{fixed_weekdays, holiday_form, weekday_form, weekday_item_at}
use Rattle.rule_items.specs.Spans.{fixed_time, variable_time, time_form, time_at, span_at}
use Rattle.rule_image.specs.Listed.{listed}
use Rattle.rule_image.specs.RuleAt.{head_at, counts_at, rule_at}
use Rattle.rule_image.specs.Reading.{sheet_at, fill_bits, ended, filled, no_sheet, kept, reading}
use Rattle.rule_lists.specs.declared.Head.{Head}
use Rattle.rule_image.specs.Limits.{Few, Between, MaybeYear, without, with-year, DateOk, DateOffsetOk, MonthdayOk, YearOk, WeekOk, WeekdayOk, TimeOk, SpanOk, Counted, RuleOk, SheetOk}

-- a reading that keeps its limits: where it is accepted, it stood before, and what it read is good
In : {A : Type 0} → (A → Type 0) → (Place → Read A) → Type 0
In Good f = (p : Place) → Stands (f p).place → Stands p × Good (f p).item

module _ (s : List ℕ) where
  year-in : In YearOk (year_at s)
  unfolding In year_at
  year-in p k =
      let c = number_in s _ 14 1 9999 PastLimits k in
      let b = number_in s _ 14 1900 9999 PastLimits c.0 in
      let a = number_in s p 14 1900 9999 PastLimits b.0 in
      (a.0, (a.1, (b.1, c.1)))

  week-in : In WeekOk (week_at s)
  unfolding In week_at
  week-in p k =
      let c = number_in s _ 6 1 53 PastLimits k in
      let b = number_in s _ 6 1 53 PastLimits c.0 in
      let a = number_in s p 6 1 53 PastLimits b.0 in
      (a.0, (a.1, (b.1, c.1)))

  -- the flag decides: 0 leaves only 0, 1 a year
  maybe : (f y : ℕ) → f ≤ 1 → Between (1900 * f) (9999 * f) y → MaybeYear y
  maybe zero y l b = go y b.1
    where
      go : (y : ℕ) → y ≤ 0 → MaybeYear y
      go zero h = without
      go (suc y) h = absurd (omega arith)
  maybe (suc zero) y l b = with-year {y = y} (omega arith, omega arith)
  maybe (suc (suc f)) y l b = absurd (omega arith)

  flagged-in : In MaybeYear (flagged_year s)
  unfolding In flagged_year
  flagged-in p k =
      let y = number_in s _ 14 _ _ PastLimits k in
      let f = number_in s p 1 0 1 PastLimits y.0 in
      (f.0, maybe _ _ f.1.1 y.1)

  fixed_in : In DateOk (fixed_date s)
  unfolding In fixed_date
  fixed_in p k =
      let d = number_in s _ 5 1 31 PastLimits k in
      let m = number_in s _ 4 1 12 PastLimits d.0 in
      let y = flagged-in p m.0 in
      (y.0, (y.1, (m.1, d.1)))

  nth_in : In DateOk (nth_date s)
  unfolding In nth_date
  nth_in p k =
      let n = signed_below s _ 4 8 8 refl k in
      let d = number_in s _ 3 0 6 NoMeaning n.0 in
      let m = number_in s _ 4 1 12 PastLimits d.0 in
      let y = flagged-in p m.0 in
      (y.0, (y.1, (m.1, (d.1.1, n.1))))

  easter-in : In DateOk (easter_date s)
  unfolding In easter_date
  easter-in p k = flagged-in p k

  date-form-in : (n : ℕ) → In DateOk (date_form s n)
  unfolding In
  date-form-in zero = fixed_in
  date-form-in (suc zero) = nth_in
  date-form-in (suc (suc n)) = easter-in

  date-in : In DateOk (date_at s)
  unfolding In date_at
  date-in p k =
      let d = date-form-in (number_at s p 2 0 2 NoMeaning).item (number_at s p 2 0 2 NoMeaning).place k in
      ((number_in s p 2 0 2 NoMeaning d.0).0, d.1)

  offset-in : (edition : ℕ) → In DateOffsetOk (date_offset s edition)
  unfolding In date_offset
  offset-in edition p k =
      let o = signed-in s _ 10 366 k in
      let d = date-in p o.0 in
      (d.0, (d.1, o.1))

  months-in : In MonthdayOk (months_form s)
  unfolding In months_form
  months-in p k =
      let b = number_in s _ 4 1 12 PastLimits k in
      let a = number_in s p 4 1 12 PastLimits b.0 in
      (a.0, (a.1, b.1))

  year-months-in : In MonthdayOk (year_months_form s)
  unfolding In year_months_form
  year-months-in p k =
      let b = number_in s _ 4 1 12 PastLimits k in
      let a = number_in s _ 4 1 12 PastLimits b.0 in
      let y = number_in s p 14 1900 9999 PastLimits a.0 in
      (y.0, (y.1, (a.1, b.1)))

  dates-in : (edition : ℕ) → In MonthdayOk (dates_form s edition)
  unfolding In dates_form
  dates-in edition p k =
      let b = offset-in edition _ k in
      let a = offset-in edition p b.0 in
      (a.0, (a.1, b.1))

  monthday-form-in : (edition n : ℕ) → In MonthdayOk (monthday_form s edition n)
  unfolding In
  monthday-form-in edition zero = months-in
  monthday-form-in edition (suc zero) = year-months-in
  monthday-form-in edition (suc (suc n)) = dates-in edition

  monthday-in : (edition : ℕ) → In MonthdayOk (monthday_at s edition)
  unfolding In monthday_at
  monthday-in edition p k =
      let d = monthday-form-in edition (number_at s p 2 0 2 NoMeaning).item (number_at s p 2 0 2 NoMeaning).place k in
      ((number_in s p 2 0 2 NoMeaning d.0).0, d.1)

  weekdays-in : In WeekdayOk (fixed_weekdays s)
  unfolding In fixed_weekdays
  weekdays-in p k =
      let o = signed-in s _ 10 366 k in
      let g = number_in s _ 5 0 31 PastLimits o.0 in
      let f = number_in s _ 5 0 31 PastLimits g.0 in
      let b = number_in s _ 3 0 6 NoMeaning f.0 in
      let a = number_in s p 3 0 6 NoMeaning b.0 in
      (a.0, (a.1.1, (b.1.1, (f.1.1, (g.1.1, o.1)))))

  holiday-in : In WeekdayOk (holiday_form s)
  unfolding In holiday_form
  holiday-in p k =
      let o = signed-in s _ 10 366 k in
      ((number_in s p 1 0 1 PastLimits o.0).0, o.1)

  weekday-form-in : (n : ℕ) → In WeekdayOk (weekday_form s n)
  unfolding In
  weekday-form-in zero = weekdays-in
  weekday-form-in (suc n) = holiday-in

  weekday-in : In WeekdayOk (weekday_item_at s)
  unfolding In weekday_item_at
  weekday-in p k =
      let d = weekday-form-in (number_at s p 1 0 1 NoMeaning).item (number_at s p 1 0 1 NoMeaning).place k in
      ((number_in s p 1 0 1 NoMeaning d.0).0, d.1)

  fixed-time-in : In TimeOk (fixed_time s)
  unfolding In fixed_time
  fixed-time-in p k = let m = number_in s p 12 0 2880 PastLimits k in (m.0, m.1.1)

  variable-time-in : In TimeOk (variable_time s)
  unfolding In variable_time
  variable-time-in p k =
      let o = signed-in s _ 12 1440 k in
      let e = number_in s p 2 0 3 PastLimits o.0 in
      (e.0, (e.1.1, o.1))

  time-form-in : (n : ℕ) → In TimeOk (time_form s n)
  unfolding In
  time-form-in zero = fixed-time-in
  time-form-in (suc n) = variable-time-in

  time-in : In TimeOk (time_at s)
  unfolding In time_at
  time-in p k =
      let d = time-form-in (number_at s p 1 0 1 NoMeaning).item (number_at s p 1 0 1 NoMeaning).place k in
      ((number_in s p 1 0 1 NoMeaning d.0).0, d.1)

  span-in : In SpanOk (span_at s)
  unfolding In span_at
  span-in p k =
      let b = time-in _ k in
      let a = time-in p b.0 in
      (a.0, (a.1, b.1))

-- an empty room
empty : {A : Type 0} (m : ℕ) (none : A) (i : ℕ) → get_or (replicate m none) i none ≡ none
empty m none i = by (ltb i m) refl
  where
    by : (b : Bool) → ltb i m ≡ b → get_or (replicate m none) i none ≡ none
    by true e = get_or-replicate m i none none (ltb-true i m e)
    by false e = get_or-eq_default (replicate m none) none (omega (arith, length-replicate m none, ltb-false i m e))

-- a counted list of good items in a room of m
module _ {A : Type 0} (Good : A → Type 0) (f : Place → Read A) (g : In Good f) (none : A) (m : ℕ) (p : Place) where
  size : (k : ℕ) → length (listed f (replicate m none) p k).item ≡ m
  unfolding listed
  size zero = length-replicate m none
  size (suc k) = length-set (listed f (replicate m none) p k).item k (f (listed f (replicate m none) p k).place).item ∙ size k

  -- one item more
  more : (l : List A) (k : ℕ) (a : A) → k < length l → Good a → Counted Good none k l → Counted Good none (suc k) (set l k a)
  more l k a h x c =
      record {
        good = λ (i : ℕ) (j : i < suc k). by i j (ltb i k) refl;
        rest = λ (i : ℕ) (j : suc k ≤ i). get_or-set_other l k i a none (λ (e : i ≡ k). omega arith) ∙ c.rest i (omega arith);
      }
    where
      by : (i : ℕ) → i < suc k → (b : Bool) → ltb i k ≡ b → Good (get_or (set l k a) i none)
      by i j true e =
          let t : i < k = ltb-true i k e in
          rw (get_or-set_other l k i a none (λ (q : i ≡ k). omega arith)) (c.good i t)
      by i j false e =
          let t : k ≤ i = ltb-false i k e in
          let q : i ≡ k = omega arith in
          rw (q, get_or-set_same l k a none h) x

  listed_in : (k : ℕ) → k ≤ m → Stands (listed f (replicate m none) p k).place → Stands p × Counted Good none k (listed f (replicate m none) p k).item
  unfolding listed In
  listed_in zero h t = (t, record { good = λ (i : ℕ) (j : i < 0). absurd (omega arith); rest = λ (i : ℕ) (j : 0 ≤ i). empty m none i })
  listed_in (suc k) h t =
      let y = g (listed f (replicate m none) p k).place t in
      let r = listed_in k (omega arith) y.0 in
      (r.0, more _ k _ (omega (arith, size k)) y.1 r.1)

  -- an accepted list stood before it
  listed_back : (k : ℕ) → Stands (listed f (replicate m none) p k).place → Stands p
  unfolding listed In
  listed_back zero t = t
  listed_back (suc k) t = listed_back k (g (listed f (replicate m none) p k).place t).0

HeadOk : Head → Type 0
HeadOk h = (h.kind ≤ 2) × (h.comment ≤ 255)

module _ (s : List ℕ) where
  operator-back : (p : Place) → Stands (operator_at s p).place → Stands p
  unfolding operator_at
  operator-back p k = (number_in s p 2 0 2 NoMeaning k).0

  head_in : In HeadOk (head_at s)
  unfolding In HeadOk head_at
  head_in p k =
      let c = number_in s _ 8 0 255 PastLimits k in
      let t = number_in s _ 2 0 2 NoMeaning c.0 in
      (operator-back p t.0, (t.1.1, c.1.1))

  counts-in : In Few (counts_at s)
  unfolding In counts_at
  counts-in p k =
      let t = number_in s _ 4 0 8 PastLimits k in
      let d = number_in s _ 4 0 8 PastLimits t.0 in
      let w = number_in s _ 4 0 8 PastLimits d.0 in
      let m = number_in s _ 4 0 8 PastLimits w.0 in
      let y = number_in s p 4 0 8 PastLimits m.0 in
      (y.0, record { ys = y.1.1; ms = m.1.1; ws = w.1.1; ds = d.1.1; ts = t.1.1 })

  rule-in : (edition : ℕ) → In RuleOk (rule_at s edition)
  unfolding In HeadOk rule_at
  rule-in edition p k =
      let t4 = listed_back SpanOk (span_at s) (span-in s) no_span 8 _ _ k in
      let t3 = listed_back WeekdayOk (weekday_item_at s) (weekday-in s) no_weekday 8 _ _ t4 in
      let t2 = listed_back WeekOk (week_at s) (week-in s) no_week 8 _ _ t3 in
      let t1 = listed_back MonthdayOk (monthday_at s edition) (monthday-in s edition) no_monthday 8 _ _ t2 in
      let t0 = listed_back YearOk (year_at s) (year-in s) no_year 8 _ _ t1 in
      let c = counts-in _ t0 in
      let h = head_in p c.0 in (
        h.0,
        record {
          kind = h.1.0;
          comment = h.1.1;
          year_count = c.1.ys;
          monthday_count = c.1.ms;
          week_count = c.1.ws;
          weekday_count = c.1.ds;
          span_count = c.1.ts;
          years = (listed_in YearOk (year_at s) (year-in s) no_year 8 _ _ c.1.ys t1).1;
          monthdays = (listed_in MonthdayOk (monthday_at s edition) (monthday-in s edition) no_monthday 8 _ _ c.1.ms t2).1;
          weeks = (listed_in WeekOk (week_at s) (week-in s) no_week 8 _ _ c.1.ws t3).1;
          weekdays = (listed_in WeekdayOk (weekday_item_at s) (weekday-in s) no_weekday 8 _ _ c.1.ds t4).1;
          spans = (listed_in SpanOk (span_at s) (span-in s) no_span 8 _ _ c.1.ts k).1;
        },
      )

  sheet-in : Stands (sheet_at s).place → SheetOk (sheet_at s).item
  unfolding sheet_at
  sheet-in k =
      let e = (number_at s (At 0) 4 1 1 NoMeaning).item in
      let n = number_in s _ 6 0 32 PastLimits (listed_back RuleOk (rule_at s e) (rule-in e) no_rule 32 _ _ k) in
      record { count = n.1.1; rules = (listed_in RuleOk (rule_at s e) (rule-in e) no_rule 32 _ _ n.1.1 k).1 }

  -- fill keeps a refusal
  filled-back : (p : Place) → Stands (filled s p) → Stands p
  unfolding filled fill_bits ended
  filled-back (At a) k = record { is = tt }
  filled-back (Refused c b) k = absurd k.is

  none-ok : SheetOk no_sheet
  none-ok =
      record {
        count = omega arith;
        rules = record { good = λ (i : ℕ) (j : i < 0). absurd (omega arith); rest = λ (i : ℕ) (j : 0 ≤ i). empty 32 no_rule i };
      }

  -- what is read keeps to the ranges of the rules
  pub reading-ok : SheetOk (reading s).item
  unfolding reading
  reading-ok = by (filled s (sheet_at s).place) refl
    where
      by : (e : Place) → filled s (sheet_at s).place ≡ e → SheetOk (kept e (sheet_at s).item)
      by (At a) q = sheet-in (filled-back (sheet_at s).place (rw q (record { is = tt })))
      by (Refused c b) q = none-ok
