-- The difference of two day numbers at 32 bits, signed, is their difference; and it is refused where the first date is.
-- Assumes nothing.
use mathlib.Core.Path.{◌≡◌}
use mathlib.Core.Bool.{Bool, true, false, ◌&&◌}
use Rattle.std.specs.Prelude.{Err}
use Rattle.refusals.specs.declared.Refusal.{Refusal}
use Rattle.dates.specs.Answers.{answered}
use Prim.Native.Nat.{ℕ, zero, suc, ◌^◌, ◌<◌}
use native.Mathlib.Decide.{dec_lt}
use native.Mathlib.Omega.{arith}
use borrow.Author.Tests.{lt-ltb, le-ltb}
use lib.IntN.{pos, ◌-ℤ◌}
use mir.Syntax.{w32}
use mir.Val.{SFits, to_z, of_z}
use mir.Facts.{to_z-of_z, to_z_pos}

-- where the first of two is refused, so is what is asked of both
pub first-refused : {A B : Type 0} (b c : Bool) (x : A) (y : B) (r : Refusal) → answered b x ≡ Err r → Err r ≡ answered (b && c) y
first-refused true c x y r h = absurd (cc)
first-refused false c x y r h = cc

-- the difference of two small naturals, by its sign
fits : (a b : ℕ) → a < 2 ^ 31 → b < 2 ^ 31 → SFits w32 (pos a -ℤ pos b)
fits a zero h k = record { sfits = omega arith }
fits a (suc b) h k = by_cases (dec_lt a (suc b))
  where
    by_cases : Dec (a < suc b) → SFits w32 (pos a -ℤ pos (suc b))
    by_cases (yes l) = simp (lt-ltb a (suc b) l) (record { sfits = omega arith })
    by_cases (no l) = simp (le-ltb a (suc b) (omega arith)) (record { sfits = omega arith })

-- and of the same two as bits
pub apart-is : (a b : ℕ) → a < 2 ^ 31 → b < 2 ^ 31 → to_z w32 (of_z w32 (to_z w32 a -ℤ to_z w32 b)) ≡ pos a -ℤ pos b
apart-is a b h k = rw (to_z_pos w32 h, to_z_pos w32 k) (to_z-of_z (fits a b h k))
