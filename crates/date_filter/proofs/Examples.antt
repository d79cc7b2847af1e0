-- The rules' examples of dates on a year. The days before 2021 come from the direct count, so that nothing long is computed.
-- Assumes nothing.
use mathlib.Core.Path.{◌≡◌, refl, sym, ap, ◌∙◌}
use Prim.Native.Nat.{◌+◌}
use native.Mathlib.Omega.{arith}
use lib.IntN.{negsuc}
use Rattle.std.specs.Prelude.{Some, None}
use Rattle.date_bounds.specs.declared.Side.TheVariants.{Start, End}
use Rattle.calendar.specs.Calendar.{leap, month_length, before_month, before_year, ordinal, day_number, weekday}
use Rattle.calendar.proofs.Direct.{directly}
use Rattle.calendar.proofs.Days.{month-suc, no-month}
use Rattle.rules.specs.declared.Date.TheVariants.{Fixed, Weekday}
use Rattle.date_bounds.specs.Bounds.{as_start, as_end, nth_in, nth_on, on_year, own_year, year_for, date_on}
use Rattle.date_bounds.proofs.Nth.{end-hit, end-miss}
use Rattle.date_bounds.proofs.OnYear.{past-month}

before-2021 : before_year 2021 ≡ 738156
before-2021 = omega (arith, directly 2021)

january-days : month_length (leap 2021) 1 ≡ 31
unfolding leap month_length
january-days = refl

february-days : month_length (leap 2021) 2 ≡ 28
unfolding leap month_length
february-days = refl

before-february : before_year 2021 + before_month (leap 2021) 2 ≡ 738187
before-february = omega (arith, before-2021, no-month (leap 2021), month-suc (leap 2021) 1, january-days)

-- 2021/02/30 as end is 28 February, as start 1 March
pub february-30-ends : date_on as_end (Fixed 2021 2 30) 2021 ≡ Some (day_number (record { year = 2021; month = 2; day = 28 }))
unfolding date_on on_year own_year year_for day_number ordinal
february-30-ends = ap Some (omega (arith, february-days, past-month End 2021 2 30 (omega (arith, february-days))))

pub february-30-starts : date_on as_start (Fixed 2021 2 30) 2021 ≡ Some (day_number (record { year = 2021; month = 3; day = 1 }))
unfolding date_on on_year own_year year_for day_number ordinal
february-30-starts = ap Some (omega (arith, february-days, month-suc (leap 2021) 2, past-month Start 2021 2 30 (omega (arith, february-days))))

-- the last Friday of February 2021 is the 26th, and there is no fifth from the end
sunday : 6 ≡ weekday (738187 + 28)
unfolding weekday
sunday = refl

from_end : nth_in 738187 28 4 (negsuc 0) ≡ Some 738213
unfolding nth_in
from_end = sym (end-hit 738187 28 4 1 6 (omega arith) (omega arith) sunday (omega arith))

fifth-from-end : nth_in 738187 28 4 (negsuc 4) ≡ None
unfolding nth_in
fifth-from-end = sym (end-miss 738187 28 4 5 6 (omega arith) (omega arith) sunday (omega arith))

the-26th : day_number (record { year = 2021; month = 2; day = 26 }) ≡ 738213
unfolding day_number ordinal
the-26th = omega (arith, before-february)

pub last-friday : date_on as_end (Weekday 0 2 4 (negsuc 0)) 2021 ≡ Some (day_number (record { year = 2021; month = 2; day = 26 }))
unfolding date_on on_year own_year year_for nth_on
last-friday = rw (before-february, february-days) (from_end ∙ ap Some (sym the-26th))

pub no-fifth-friday : date_on as_end (Weekday 0 2 4 (negsuc 4)) 2021 ≡ None
unfolding date_on on_year own_year year_for nth_on
no-fifth-friday = rw (before-february, february-days) fifth-from-end
