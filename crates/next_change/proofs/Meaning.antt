-- The answer says what the next change is, and no other answer does.
use mathlib.Core.Path.{◌≡◌, sym, ap, ◌∙◌}
use mathlib.Core.Bool.{true, false}
use mathlib.Core.List.{List}
use Prim.Native.Nat.{ℕ, ◌≤◌}
use native.Mathlib.Omega.{arith}
use Rattle.std.specs.Prelude.{Option, Some, None, Result, Ok}
use Rattle.calendar.specs.Calendar.{day_number, date_of}
use Rattle.calendar.specs.declared.Date.{Date}
use Rattle.calendar.proofs.Weeks.{settled}
use Rattle.days.proofs.Laws.{year-from}
use Rattle.intervals.specs.Intervals.{last_day}
use Rattle.rules.specs.declared.Sheet.{Sheet}
use Rattle.time_filter.specs.declared.Events.{Events}
use Rattle.date_filter.specs.Filter.{Holidays}
use Rattle.inputs.specs.Inputs.{inputs_of}
use Rattle.ranges.specs.States.{shows}
use Rattle.opening_hours.specs.Hours.{can_show}
use Rattle.changes.specs.Days.{within}
use Rattle.changes.specs.Search.{Told, tells, Found, stopped, changes, never, next_change}
use Rattle.changes.specs.Meaning.{NextMeans}
use Rattle.changes.proofs.Count.{none_left}
use Rattle.changes.proofs.Means.{next-means}
use Rattle.changes.proofs.Only.{only_next}
use Rattle.next_change.specs.declared.Change.{Change}
use Rattle.next_change.specs.declared.Moment.{Moment}
use Rattle.next_change.specs.declared.Refused.{Refused}
use Rattle.next_change.specs.Shop.{shop_day}
use Rattle.next_change.specs.Answer.{can_ask, change_on, no_change, change_of, change_answer}
use Rattle.next_change.specs.Meaning.{Says}
use Rattle.next_change.proofs.Asking.{asks}
use Rattle.next_change.proofs.Starting.{not_first}

-- the year of a moment, 0 where there is none
abbrev pub year_of : Option Moment → ℕ
year_of None = 0
year_of (Some m) = m.date.year

module _ (rules : List ℕ) (row : Events) (h : Holidays) (date : Date) (t days : ℕ) (sheet : Sheet) (z : inputs_of rules row h ≡ Ok sheet) (a : can_ask date t days ≡ true) where
  abbrev day : ℕ → Told
  day = shop_day h row sheet

  abbrev n : ℕ
  n = day_number date

  -- nothing is refused before the search, so the answer is what it finds
  answer-is : change_answer rules row h date t days ≡ change_of (next_change day n t (within days n))
  unfolding change_answer
  answer-is = rw (z, a)

  -- THEOREM: the answer says what the next change is
  pub answer-says : Says day n t (within days n) (change_answer rules row h date t days)
  answer-says = record { found = next_change day n t (within days n); is = answer-is; means = next-means day n t (within days n) (asks date t days a).minute }

  -- THEOREM: and it is the only one that does
  pub only-answer : (r : Result Change Refused) → Says day n t (within days n) r → r ≡ change_answer rules row h date t days
  only-answer r s = s.is ∙ ap change_of (only_next day n t (within days n) s.found (asks date t days a).minute s.means) ∙ sym answer-is

  -- THEOREM: from 10000-01-01 on there is no change, with no day examined
  pub too-late : last_day ≤ n → change_answer rules row h date t days ≡ Ok (no_change 0)
  too-late l = answer-is ∙ rw (none_left days n l)

  -- a day that is found is of the year 1 or later, as the asked one is
  found-year : (x : Found) → NextMeans day n t (within days n) x → (c : Change) → change_of x ≡ Ok c → year_of c.at ≡ 0 → change_of x ≡ Ok (no_change (within days n))
  found-year (stopped e r) m c p q = absurd (let k : ◌≡◌ {A = ℕ} 0 1 = cc in omega arith)
  found-year (never k) m c p q = let e : k ≡ within days n = omega (arith, m.examined) in ap (λ (i : ℕ). Ok (no_change i)) e
  found-year (changes e u k) m c p q =
      let d = (asks date t days a).there in
      let g = not_first date d.valid d.low in
      let f = m.from in let i = m.minute in
      let y = year-from {k = 0} (settled e (omega arith)) (omega arith) in
      let s : change_on (date_of e) u k ≡ c = cc in
      let w : (date_of e).year ≡ 0 = rw (← s) at q in
      absurd (omega arith)

  -- THEOREM: year 0 means that there is none, and all the days were examined
  pub year-zero : (c : Change) → change_answer rules row h date t days ≡ Ok c → year_of c.at ≡ 0 → change_answer rules row h date t days ≡ Ok (no_change (within days n))
  year-zero c p q =
      let e = answer-is in
      e ∙ found-year (next_change day n t (within days n)) (next-means day n t (within days n) (asks date t days a).minute) c (rw e at p) q

-- THEOREM: a day before 1900 or after 9999 is closed, and never refused
pub closed-day : (h : Holidays) (row : Events) (sheet : Sheet) (n : ℕ) → can_show n ≡ false → shop_day h row sheet n ≡ tells (λ t. shows 1 0)
unfolding shop_day
closed-day h row sheet n e = rw e
