-- Year and week items.
use Rattle.std.specs.Prelude.{ℕ, List}
use Rattle.refusals.specs.declared.Cause.TheVariants.{PastLimits}
use Rattle.bits.specs.Place.{Place, Read, number_at}
use Rattle.rules.specs.declared.YearItem.{YearItem}
use Rattle.rules.specs.declared.WeekItem.{WeekItem}

-- start 14, end 14 (1900 to 9999), step 14 (1 to 9999)
unfoldable pub year_at : List ℕ → Place → Read YearItem
year_at s p =
    let a : Read ℕ = number_at s p 14 1900 9999 PastLimits in
    let b : Read ℕ = number_at s a.place 14 1900 9999 PastLimits in
    let c : Read ℕ = number_at s b.place 14 1 9999 PastLimits in
    record { item = record { start = a.item; end = b.item; step = c.item }; place = c.place }

-- start 6, end 6, step 6, each 1 to 53
unfoldable pub week_at : List ℕ → Place → Read WeekItem
week_at s p =
    let a : Read ℕ = number_at s p 6 1 53 PastLimits in
    let b : Read ℕ = number_at s a.place 6 1 53 PastLimits in
    let c : Read ℕ = number_at s b.place 6 1 53 PastLimits in
    record { item = record { start = a.item; end = b.item; step = c.item }; place = c.place }
