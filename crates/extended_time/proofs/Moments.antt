-- What the definitions say of a time, for the crates above.
-- Assumes nothing.
use mathlib.Core.Path.{◌≡◌, refl, ap}
use mathlib.Core.Bool.{Bool, true, false}
use Prim.Native.Nat.{ℕ, ◌/◌, ◌%◌, ◌≤◌}
use native.Mathlib.Omega.{arith}
use borrow.Author.Tests.{le-leb, leb-true}
use lib.Dec.{leb}
use lib.IntN.{ℤ, pos, negsuc, ◌+ℤ◌}
use Rattle.extended_time.specs.Moments.{moment_of, signed_moment, clock_time, sum_of}
use Rattle.std.proofs.Common.{Some, None, Option}
use Rattle.extended_time.specs.declared.ExtendedTime.{ExtendedTime}

-- a moment lies at 48:00 or before
abbrev pub InTime : Option ExtendedTime → Type 0
InTime (Some x) = x.minutes ≤ 2880
InTime None = Unit {0}

-- every moment that the definitions give does
pub in-time : (n : ℕ) → InTime (moment_of n)
unfolding moment_of
in-time n = go (leb n 2880) refl
  where
    go : (q : Bool) → leb n 2880 ≡ q → InTime (moment_of n)
    go true e = rw e (leb-true n 2880 e)
    go false e = rw e tt

in-time-signed : (z : ℤ) → InTime (signed_moment z)
unfolding signed_moment
in-time-signed (pos n) = in-time n
in-time-signed (negsuc n) = tt

pub in-time-sum : (n : ℕ) (z : ℤ) → InTime (sum_of n z)
unfolding sum_of
in-time-sum n z = in-time-signed (pos n +ℤ z)

-- a time's hour and minute make it again
pub again : (n : ℕ) → clock_time (n / 60) (n % 60) ≡ moment_of n
unfolding clock_time
again n = rw (le-leb (n % 60) 59 (omega arith)) (ap moment_of (omega arith))
