-- The count and the place of a day's listing fit the lower half of an answer: there are at most 32 rules, and at most 64 ranges.
use mathlib.Core.Path.{◌≡◌, refl}
use mathlib.Core.Bool.{Bool, true, false, cond}
use mathlib.Core.List.{List, [], ◌∷◌, map}
use Prim.Native.Nat.{ℕ, ◌+◌, ◌≤◌, ◌<◌}
use native.Mathlib.Omega.{arith}
use Rattle.std.specs.Prelude.{Result, Ok, Err}
use Rattle.refusals.specs.Numbers.{refused}
use Rattle.refusals.specs.declared.Cause.TheVariants.{NoDate}
use Rattle.refusals.specs.declared.Refusal.{Refusal}
use lib.ListN.{length, length-take, length-map}
use Rattle.calendar.specs.Calendar.{day_number}
use Rattle.calendar.specs.declared.Date.{Date}
use Rattle.dates.specs.Exists.{is_date}
use Rattle.rules.specs.declared.Sheet.{Sheet}
use Rattle.time_filter.specs.declared.Events.{Events}
use Rattle.date_filter.specs.Filter.{Holidays}
use Rattle.ranges.specs.Range.{Range}
use Rattle.reading.specs.Operators.{Turn, start}
use Rattle.reading.specs.Ranging.{Spanned, Ranged, over64, gives, turn_r, few_b, range_m, day_r}
use Rattle.rule_day.specs.Parts.{spanned_on}
use Rattle.opening_hours.specs.Hours.{can_show, rules_in, spanneds_on, day_ranged}
use Rattle.inputs.specs.Inputs.{inputs_of}
use Rattle.inputs.proofs.Meaning.{sheet-ok, inputs-limits}
use Rattle.day_listing.specs.Listed.{day_listed, date_listed, answer_on}
use Rattle.kumolendi.specs.Answers.{Small}
use Rattle.kumolendi.proofs.SizeLaws.{list-small}
use Rattle.opening_hours.proofs.Few.{day-few}

-- a refused rule is one of the rules
pub range-near : (n : ℕ) (ms : List Spanned) (p : Turn (List Range)) (k : ℕ) → range_m n ms p ≡ over64 k → k < n + length ms
range-near n [] p k e = let z : ◌≡◌ {A = ℕ} 0 1 = cc in absurd (omega arith)
range-near n (m ∷ ms) p k e = by (few_b (turn_r m p).eval) (range-near (n + 1) ms (turn_r m p) k) e
  where
    by : (q : Bool) → (range_m (n + 1) ms (turn_r m p) ≡ over64 k → k < n + 1 + length ms) → cond q (range_m (n + 1) ms (turn_r m p)) (over64 n) ≡ over64 k
        → k < n + length (m ∷ ms)
    by true f g = omega (arith, f g)
    by false f g = let z : n ≡ k = cc in omega arith

module _ (h : Holidays) (row : Events) (n : ℕ) (s : Sheet) where
  pub rules-few : s.count ≤ 32 → length (spanneds_on h row n s) ≤ 32
  rules-few c = by (can_show n)
    where
      by : (q : Bool) → length (cond q (map (spanned_on h row n) (rules_in s)) []) ≤ 32
      by true = omega (arith, length-map (rules_in s) (spanned_on h row n), length-take s.count s.rules)
      by false = omega arith

  day-small : s.count ≤ 32 → (cells : ℕ) → Small (day_listed (day_ranged h row n s) cells)
  day-small c cells = by (day_ranged h row n s) refl
    where
      by : (x : Ranged) → day_ranged h row n s ≡ x → Small (day_listed x cells)
      by (over64 k) e = record { fits = omega (arith, range-near 0 (spanneds_on h row n s) start k e, rules-few c) }
      by (gives v) e = list-small (day_r v) cells (day-few h row n s v e)

-- the limits of the inputs where they are refused, else those of the day
pub answer-small : (rules : List ℕ) (row : Events) (h : Holidays) (date : Date) (cells : ℕ) → Small (answer_on rules row h date cells)
unfolding answer_on
answer-small rules row h date cells = by (inputs_of rules row h) refl
  where
    by : (i : Result Sheet Refusal) → inputs_of rules row h ≡ i → Small (date_listed i row h date cells)
    by (Err f) e = record { fits = omega (arith, (inputs-limits rules row h f e).1) }
    by (Ok sheet) e = dated (is_date date)
      where
        dated : (q : Bool) → Small (cond q (day_listed (day_ranged h row (day_number date) sheet) cells) (refused NoDate 0))
        dated true = day-small h row (day_number date) sheet (sheet-ok rules row h sheet e).count cells
        dated false = record { fits = omega arith }
