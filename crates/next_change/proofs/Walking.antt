-- The loop over the days of a shop: the day reached is the first and those passed.
use mathlib.Core.Path.{◌≡◌, ap, subst, ◌∙◌}
use mathlib.Core.List.{List}
use Prim.Native.Nat.{ℕ, ◌+◌, ◌≤◌, ◌<◌}
use native.Mathlib.Omega.{arith}
use lib.ListN.{length, take}
use Rattle.std.specs.Prelude.{Some, None, Ok, Err}
use Rattle.refusals.specs.declared.Refusal.{Refusal}
use Rattle.calendar.specs.Calendar.{date_of}
use Rattle.calendar.specs.declared.Date.{Date}
use Rattle.days.specs.declared.Day.{Day}
use Rattle.days.specs.DayOf.{day_of}
use Rattle.date_items.proofs.Laws.{is-day, own-number}
use Rattle.rules.specs.declared.Sheet.{Sheet}
use Rattle.time_filter.specs.declared.Events.{Events}
use Rattle.date_filter.specs.Filter.{Holidays}
use Rattle.reading.specs.Reading.{day_at}
use Rattle.opening_hours.specs.Hours.{rules_on, day_ranged}
use Rattle.opening_hours.specs.Rooms.{Answered, DayReady}
use Rattle.changes.specs.Search.{refuses, tells, never, next_change}
use Rattle.changes.specs.Words.{Ordered}
use Rattle.next_change.specs.declared.Since.{Since}
use Rattle.next_change.specs.declared.Since.TheVariants.{Minute, Before}
use Rattle.next_change.specs.Shop.{shop_day}
use Rattle.next_change.specs.Answer.{change_on, change_of}
use Rattle.next_change.specs.Looking.{held, from, look_in, Looks, Searchable}
use Rattle.next_change.proofs.Given.{looks}
use Rattle.next_change.proofs.Shops.{shop-refused, shop-given, day-refused, day-given}
use Rattle.next_change.proofs.Resting.{Rests, rest-begin, rest-refused, rest-changes, rest-on, rest_end}

pub record Walks (h : Holidays) (row : Events) (sheet : Sheet) (t count : ℕ) (d day : Day) (since : Since) (i : ℕ) : Type 0 where
  pub start : Searchable h sheet d count
  pub is : day ≡ day_of day.number
  pub number : day.number ≡ d.number + i
  pub rests : Rests (shop_day h row sheet) d.number t count since i

-- the first day, with none passed
pub walk-begin : (h : Holidays) (row : Events) (sheet : Sheet) (t count : ℕ) (d : Day) → Searchable h sheet d count → t < 1440 → Walks h row sheet t count d d (Minute t) 0
walk-begin h row sheet t count d f k =
    record { start = f; is = f.day; number = omega arith; rests = rest-begin (shop_day h row sheet) d.number t count k }

module _ (h : Holidays) (row : Events) (sheet : Sheet) (t count : ℕ) (d day : Day) (since : Since) (i : ℕ) (st : Walks h row sheet t count d day since i) where
  -- the day reached can be evaluated
  pub walk-ready : (xs : List ℕ) → 192 ≤ length xs → DayReady h sheet day xs
  walk-ready xs l = record { sound = st.start.sound; sheet = st.start.limits; day = st.is; room = l }

  module _ (k : i < count) where
    -- it lies before 10000-01-01, as a day is left
    pub walk_before : (day ≡ day_of day.number) × (367 ≤ day.number) × (day.number < 4000000)
    walk_before =
        let n = st.number in let f = st.start.low in let g = st.start.high in
        (st.is, omega arith, omega arith)

    module _ (date : Date) (p : date ≡ date_of day.number) (xs : List ℕ) where
      -- refused, it is where the search stops
      pub walk-refused : (f : Refusal) → Answered (day_ranged h row day.number sheet) xs (Err f)
          → Err (record { refusal = f; date = Some date }) ≡ change_of (next_change (shop_day h row sheet) d.number t count)
      walk-refused f w =
          let r = shop-refused h row sheet day.number xs f w in
          let e : shop_day h row sheet (d.number + i) ≡ refuses f.place = rw st.number at (day-refused h row sheet day.number xs f r) in
          let q : date ≡ date_of (d.number + i) = p ∙ ap date_of st.number in
          ap (λ (z : Refusal). Err (record { refusal = z; date = Some date })) r.is
          ∙ rw q (ap change_of (rest-refused (shop_day h row sheet) d.number t count since i st.rests k f.place e))

      module _ (m : ℕ) (w : Answered (day_ranged h row day.number sheet) xs (Ok m)) where
        -- its words are within the room, and in order
        pub walk-long : 192 ≤ length xs → m ≤ length xs
        walk-long l = (shop-given h row sheet day.number xs st.start.limits m w).long l

        pub walk-words : Ordered (take m xs)
        walk-words = (shop-given h row sheet day.number xs st.start.limits m w).order

        abbrev shown : ℕ → Rattle.ranges.specs.States.Shown
        shown = day_at (rules_on h row day.number sheet)

        -- the look is at the day that the search has reached
        tells-here : shop_day h row sheet (d.number + i) ≡ tells shown
        tells-here =
            subst (λ (n : ℕ). shop_day h row sheet n ≡ tells shown) st.number (day-given h row sheet day.number xs m (shop-given h row sheet day.number xs st.start.limits m w))

        looks-here : Looks shown (held since (tells shown)) (from since) (look_in (take m xs) since)
        looks-here = looks shown (take m xs) (shop-given h row sheet day.number xs st.start.limits m w).shows since st.rests.early

        -- so the change before 24:00 is what the search from the first day finds
        pub walk-changes : (u : ℕ) → (look_in (take m xs) since).minute ≡ Some u → Ok (change_on date u (i + 1)) ≡ change_of (next_change (shop_day h row sheet) d.number t count)
        walk-changes u q =
            let r : date ≡ date_of (d.number + i) = p ∙ ap date_of st.number in
            rw r (ap change_of (rest-changes (shop_day h row sheet) d.number t count since i st.rests k shown tells-here (look_in (take m xs) since) looks-here u q))

        -- and a calm day is passed, and tomorrow is reached
        pub walk-on : (look_in (take m xs) since).minute ≡ None → (y : Day) → y ≡ day_of (day.number + 1) → Walks h row sheet t count d y (Before (look_in (take m xs) since).state) (i + 1)
        walk-on q y o =
            let u = own-number y (day.number + 1) o in
            let n = st.number in
            record {
              start = st.start;
              is = is-day y (day.number + 1) o;
              number = omega arith;
              rests = rest-on (shop_day h row sheet) d.number t count since i st.rests k shown tells-here (look_in (take m xs) since) looks-here q;
            }

  -- all the days are passed
  pub walk_end : count ≤ i → change_of (never count) ≡ change_of (next_change (shop_day h row sheet) d.number t count)
  walk_end k = ap change_of (rest_end (shop_day h row sheet) d.number t count since i st.rests k)
