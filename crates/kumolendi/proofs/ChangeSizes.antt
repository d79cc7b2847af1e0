-- The place of a next change fits 32 bits: it is the inputs', 0, or the number of a rule.
use mathlib.Core.Path.{◌≡◌, refl}
use mathlib.Core.Bool.{Bool, true, false, cond}
use mathlib.Core.List.{List}
use Prim.Native.Nat.{ℕ, zero, suc, ◌+◌, ◌-◌, ◌≤◌, ◌<◌}
use native.Mathlib.Omega.{arith}
use lib.Dec.{ltb}
use Rattle.std.specs.Prelude.{Result, Ok, Err}
use Rattle.refusals.specs.declared.Cause.TheVariants.{NoDate}
use Rattle.refusals.specs.declared.Refusal.{Refusal}
use Rattle.calendar.specs.Calendar.{day_number}
use Rattle.calendar.specs.declared.Date.{Date}
use Rattle.rules.specs.declared.Sheet.{Sheet}
use Rattle.time_filter.specs.declared.Events.{Events}
use Rattle.date_filter.specs.Filter.{Holidays}
use Rattle.ranges.specs.States.{Shown}
use Rattle.reading.specs.Operators.{start}
use Rattle.reading.specs.Reading.{day_at}
use Rattle.reading.specs.Ranging.{Ranged, over64, gives}
use Rattle.opening_hours.specs.Hours.{rules_on, spanneds_on, day_ranged}
use Rattle.inputs.specs.Inputs.{inputs_of}
use Rattle.inputs.proofs.Meaning.{sheet-ok, inputs-limits}
use Rattle.changes.specs.Days.{within}
use Rattle.changes.specs.Search.{Told, refuses, tells, other, Found, changes, search, look_at, next_change}
use Rattle.next_change.specs.Shop.{told, shop_day}
use Rattle.next_change.specs.Answer.{can_ask, undated, change_of, change_asked, change_answer}
use Rattle.next_change.specs.declared.Change.{Change}
use Rattle.next_change.specs.declared.Refused.{Refused}
use Rattle.kumolendi.specs.Answers.{SmallChange}
use Rattle.kumolendi.proofs.DaySizes.{range-near, rules-few}

never-refused : (c : Change) → SmallChange (Ok c)
never-refused c = record { place = λ f e. absurd (let z : ◌≡◌ {A = ℕ} 0 1 = cc in omega arith) }

small-place : (r : Refused) → r.refusal.place < 4294967296 → SmallChange (Err r)
small-place r h = record { place = λ f e. let q : r ≡ f = cc in rw (← q) h }

-- what is found over days that are refused at small numbers only
module _ (day : ℕ → Told) (near : (n r : ℕ) → day n ≡ refuses r → r < 32) (s : Shown) where
  found-small : (t d k n : ℕ) → SmallChange (change_of (search day s t d k n))
  found-small t d zero n = never-refused _
  found-small t d (suc k) n = by (day d) (near d) (found-small 0 (d + 1) k (n + 1))
    where
      choose : (q : Bool) (m : ℕ) (x : Found) → SmallChange (change_of x) → SmallChange (change_of (cond q (changes d m (n + 1)) x))
      choose true m x h = never-refused _
      choose false m x h = h

      by : (a : Told) → ((r : ℕ) → a ≡ refuses r → r < 32) → SmallChange (change_of (search day s 0 (d + 1) k (n + 1)))
          → SmallChange (change_of (look_at a s t d (n + 1) (search day s 0 (d + 1) k (n + 1))))
      by (refuses r) f h = small-place _ (omega (arith, f r refl))
      by (tells f) g h = choose (ltb (other f s t (1440 - t)) 1440) _ _ h

-- a day of the shop is refused at one of its rules
shop-near : (h : Holidays) (row : Events) (x : Sheet) → x.count ≤ 32 → (n r : ℕ) → shop_day h row x n ≡ refuses r → r < 32
unfolding shop_day
shop-near h row x c n r e = by (day_ranged h row n x) refl e
  where
    by : (a : Ranged) → day_ranged h row n x ≡ a → told a (day_at (rules_on h row n x)) ≡ refuses r → r < 32
    by (over64 k) f g = let z : k ≡ r = cc in omega (arith, range-near 0 (spanneds_on h row n x) start k f, rules-few h row n x c)
    by (gives v) f g = let z : ◌≡◌ {A = ℕ} 0 1 = cc in absurd (omega arith)

-- the limits of the inputs where they are refused, else those of the days
pub change-small : (rules : List ℕ) (row : Events) (h : Holidays) (date : Date) (t days : ℕ) → SmallChange (change_answer rules row h date t days)
unfolding change_answer
change-small rules row h date t days = by (inputs_of rules row h) refl
  where
    by : (i : Result Sheet Refusal) → inputs_of rules row h ≡ i → SmallChange (change_asked i row h date t days)
    by (Err f) e = small-place _ (omega (arith, (inputs-limits rules row h f e).1))
    by (Ok sheet) e = asked (can_ask date t days)
      where
        asked : (q : Bool) → SmallChange (cond q (change_of (next_change (shop_day h row sheet) (day_number date) t (within days (day_number date)))) (Err (undated (record { cause = NoDate; place = 0 }))))
        asked true = found-small (shop_day h row sheet) (shop-near h row sheet (sheet-ok rules row h sheet e).count) _ (t + 1) (day_number date) (within days (day_number date)) 0
        asked false = small-place _ (omega arith)
