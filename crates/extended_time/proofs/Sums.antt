-- A signed number as a time, by whether it is a number of 16 bits.
-- Assumes nothing.
use Rattle.std.proofs.Common.{◌≡◌, ℕ, ◌<◌, ℤ, pos, negsuc, Result, Ok, Err, Some, None, refl, arith, ap}
use Rattle.std.specs.Int.{FitsUnsignedBits}
use Rattle.std.specs.Result.{OkIff, result_ok}
use lib.IntN.{nat_abs}
use borrow.Author.Tests.{lt-leb}
use Rattle.extended_time.specs.Moments.{moment_of, signed_moment}

-- a time is not there above 48:00
late : (n : ℕ) → 2880 < n → None ≡ moment_of n
unfolding moment_of
late n h = rw (lt-leb n 2880 h)

-- a number that does not fit 16 bits is no time
pub unread : {E : Type 0} (z : ℤ) (r : Result ℕ E) → OkIff r (FitsUnsignedBits 16 z) (nat_abs z) → result_ok r ≡ None → None ≡ signed_moment z
unfolding signed_moment
unread (pos n) (Ok m) h e = absurd cc
unread (pos n) (Err e) h k = late n (omega (arith, h))
unread (negsuc n) r h e = refl

-- one that does is read as it is
pub read : {E : Type 0} (z : ℤ) (r : Result ℕ E) (n : ℕ) → OkIff r (FitsUnsignedBits 16 z) (nat_abs z) → result_ok r ≡ Some n → moment_of n ≡ signed_moment z
unfolding signed_moment
read (pos n) (Ok m) k h e = let f : m ≡ k = cc in ap moment_of (omega (arith, h.1))
read (negsuc n) (Ok m) k h e = absurd h.0
read z (Err d) k h e = absurd cc
