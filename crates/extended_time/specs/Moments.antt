-- Times from 00:00 to 48:00, in minutes. A time or a sum outside is none.
use Rattle.std.specs.Prelude.{cond, ℕ, ◌+◌, ◌*◌, leb, ℤ, pos, negsuc, ◌+ℤ◌, Option, Some, None}
use Rattle.extended_time.specs.declared.ExtendedTime.{ExtendedTime}

-- a number of minutes: 0 to 2880
unfoldable pub moment_of : ℕ → Option ExtendedTime
moment_of n = cond (leb n 2880) (Some (record { minutes = n })) None

-- the same of a signed number: below 0 there is none
unfoldable pub signed_moment : ℤ → Option ExtendedTime
signed_moment (pos n) = moment_of n
signed_moment (negsuc n) = None

-- an hour and a minute of it, the last of all 48:00
unfoldable pub clock_time : ℕ → ℕ → Option ExtendedTime
clock_time h m = cond (leb m 59) (moment_of (60 * h + m)) None

-- minutes, and signed minutes added to them
unfoldable pub sum_of : ℕ → ℤ → Option ExtendedTime
sum_of n z = signed_moment (pos n +ℤ z)
