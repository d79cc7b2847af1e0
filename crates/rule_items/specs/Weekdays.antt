-- Weekday items.
use Rattle.std.specs.Prelude.{ℕ, zero, suc, List, eqb, ℤ}
use Rattle.refusals.specs.declared.Cause.TheVariants.{NoMeaning, PastLimits}
use Rattle.bits.specs.Place.{Place, Read, number_at, signed_at}
use Rattle.rules.specs.declared.WeekdayItem.{WeekdayItem}
use Rattle.rules.specs.declared.WeekdayRange.TheVariants.{Fixed, Holiday}
use Rattle.rule_items.specs.Codes.{weekday_at}

-- start 3, end 3, nth flags from the start 5, from the end 5, offset 10
unfoldable pub fixed_weekdays : List ℕ → Place → Read WeekdayItem
fixed_weekdays s p =
    let a : Read ℕ = weekday_at s p in
    let b : Read ℕ = weekday_at s a.place in
    let f : Read ℕ = number_at s b.place 5 0 31 PastLimits in
    let g : Read ℕ = number_at s f.place 5 0 31 PastLimits in
    let o : Read ℤ = signed_at s g.place 10 366 in
    record { item = record { form = Fixed a.item b.item f.item g.item o.item }; place = o.place }

-- school flag 1, offset 10
unfoldable pub holiday_form : List ℕ → Place → Read WeekdayItem
holiday_form s p =
    let f : Read ℕ = number_at s p 1 0 1 PastLimits in
    let o : Read ℤ = signed_at s f.place 10 366 in
    record { item = record { form = Holiday (eqb f.item 1) o.item }; place = o.place }

abbrev pub weekday_form : List ℕ → ℕ → Place → Read WeekdayItem
weekday_form s zero p = fixed_weekdays s p
weekday_form s (suc n) p = holiday_form s p

-- tag 1: 0 weekdays, 1 holiday
unfoldable pub weekday_item_at : List ℕ → Place → Read WeekdayItem
weekday_item_at s p =
    let t : Read ℕ = number_at s p 1 0 1 NoMeaning in
    weekday_form s t.item t.place
