-- Spans: two times.
use Rattle.std.specs.Prelude.{ℕ, zero, suc, List, ℤ}
use Rattle.refusals.specs.declared.Cause.TheVariants.{NoMeaning, PastLimits}
use Rattle.bits.specs.Place.{Place, Read, number_at, signed_at}
use Rattle.rules.specs.declared.Time.{Time}
use Rattle.rules.specs.declared.Time.TheVariants.{Fixed, Variable}
use Rattle.rules.specs.declared.TimeSpan.{TimeSpan}

-- 12 bits, 0 to 2880
unfoldable pub fixed_time : List ℕ → Place → Read Time
fixed_time s p =
    let m : Read ℕ = number_at s p 12 0 2880 PastLimits in
    record { item = Fixed m.item; place = m.place }

-- event 2 (dawn, sunrise, sunset, dusk), offset 12 bits signed, -1440 to 1440
unfoldable pub variable_time : List ℕ → Place → Read Time
variable_time s p =
    let e : Read ℕ = number_at s p 2 0 3 PastLimits in
    let o : Read ℤ = signed_at s e.place 12 1440 in
    record { item = Variable e.item o.item; place = o.place }

abbrev pub time_form : List ℕ → ℕ → Place → Read Time
time_form s zero p = fixed_time s p
time_form s (suc n) p = variable_time s p

-- tag 1
unfoldable pub time_at : List ℕ → Place → Read Time
time_at s p =
    let t : Read ℕ = number_at s p 1 0 1 NoMeaning in
    time_form s t.item t.place

unfoldable pub span_at : List ℕ → Place → Read TimeSpan
span_at s p =
    let a : Read Time = time_at s p in
    let b : Read Time = time_at s a.place in
    record { item = record { start = a.item; end = b.item }; place = b.place }
