-- How far an offset moves a day, and that an offset of at most 366 days stays the same at 16 bits and at 32.
-- Assumes nothing.
use mathlib.Core.Path.{◌≡◌, ap, sym, ◌∙◌, subst}
use Prim.Native.Nat.{ℕ, ◌+◌, ◌≤◌}
use native.Mathlib.Omega.{arith}
use lib.IntN.{ℤ, pos, negsuc, nat_abs}
use mir.Syntax.{w16, w32}
use mir.Val.{SFits, to_z, of_z}
use mir.Facts.{to_z-of_z, to_z_pos}
use Rattle.calendar.specs.Moved.{moved, moved_back}

-- an offset moves a day by no more than its size
pub moved-high : (n : ℕ) (z : ℤ) → moved n z ≤ n + nat_abs z
moved-high n (pos k) = omega arith
moved-high n (negsuc k) = omega arith

pub moved_back-low : (n : ℕ) (z : ℤ) → n ≤ moved_back n z + nat_abs z
moved_back-low n (pos k) = omega arith
moved_back-low n (negsuc k) = omega arith

pub moved_back-high : (n : ℕ) (z : ℤ) → moved_back n z ≤ n + nat_abs z
moved_back-high n (pos k) = omega arith
moved_back-high n (negsuc k) = omega arith

-- an offset of at most 366 days comes back from its bits, at 16 and then at 32
small16 : (z : ℤ) → nat_abs z ≤ 366 → SFits w16 z
small16 (pos k) h = record { sfits = omega arith }
small16 (negsuc k) h = record { sfits = omega arith }

small32 : (z : ℤ) → nat_abs z ≤ 366 → SFits w32 z
small32 (pos k) h = record { sfits = omega arith }
small32 (negsuc k) h = record { sfits = omega arith }

pub again : (z : ℤ) → nat_abs z ≤ 366 → to_z w16 (of_z w16 z) ≡ z
again z h = to_z-of_z (small16 z h)

pub small-again : (z : ℤ) → nat_abs z ≤ 366 → nat_abs (to_z w16 (of_z w16 z)) ≤ 366
small-again z h = rw (again z h) h

pub widens : (z : ℤ) → nat_abs z ≤ 366 → SFits w32 (to_z w16 (of_z w16 z))
widens z h = rw (again z h) (small32 z h)

pub widened : (z : ℤ) → nat_abs z ≤ 366 → to_z w32 (of_z w32 (to_z w16 (of_z w16 z))) ≡ z
widened z h = rw (again z h) (to_z-of_z (small32 z h))

-- an offset whose bits are 0 moves nothing
is_zero : (z : ℤ) → nat_abs z ≤ 366 → of_z w16 z ≡ 0 → z ≡ pos 0
is_zero z h e = sym (again z h) ∙ ap (to_z w16) e ∙ to_z_pos w16 {n = 0} (omega arith)

pub not-moved : (n : ℕ) (z : ℤ) → nat_abs z ≤ 366 → of_z w16 z ≡ 0 → n ≡ moved_back n z
not-moved n z h e = subst (λ (x : ℤ). n ≡ moved_back n x) (sym (is_zero z h e)) (omega arith)
