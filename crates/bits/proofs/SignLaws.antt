-- Laws of two's complement, over every width to 15: the code's difference of small numbers is the value's meaning.
use mathlib.Core.Path.{◌≡◌, ap, sym, subst, ◌∙◌}
use Prim.Native.Nat.{ℕ, zero, suc, ◌-◌, ◌/◌, ◌^◌, ◌<◌, ◌≤◌}
use native.Mathlib.Omega.{arith}
use borrow.Author.Tests.{lt-ltb, le-ltb}
use lib.IntN.{ℤ, pos, negsuc, ◌-ℤ◌, sub_ℕ, nat_abs}
use lib.Signed.{mag}
use mir.Syntax.{w16, w32}
use mir.Val.{to_z, of_z, SFits}
use mir.Facts.{to_z-of_z, to_z_pos}
use Rattle.bits.specs.Signed.{signed_of}

sub-neg : (a b : ℕ) → a < b → sub_ℕ a b ≡ negsuc (b - suc a)
sub-neg a b h = rw (lt-ltb a b h)

-- a difference of two small unsigned numbers, as the code computes it
minus : (a b : ℕ) → a < b → b < 2 ^ 31 → to_z w32 a -ℤ to_z w32 b ≡ negsuc (b - suc a)
minus a zero h k = absurd (omega arith)
minus a (suc b) h k =
    ap (λ (x : ℤ). x -ℤ to_z w32 (suc b)) (to_z_pos w32 {n = a} (omega arith))
    ∙ ap (λ (x : ℤ). pos a -ℤ x) (to_z_pos w32 {n = suc b} k)
    ∙ sub-neg a (suc b) h

-- a value from the half on
pub under : (v m : ℕ) → v < m → m / 2 ≤ v → signed_of m v ≡ negsuc (m - suc v)
unfolding signed_of
under v m h k = rw (le-ltb v (m / 2) k) (sub-neg v m h)

-- a value below the half
pub over : (v m : ℕ) → v < m / 2 → signed_of m v ≡ pos v
unfolding signed_of
over v m h = rw (lt-ltb v (m / 2) h)

pub size-over : (v m : ℕ) → v < m / 2 → v ≡ nat_abs (signed_of m v)
size-over v m h = rw (over v m h)

pub size-under : (v m : ℕ) → v < m → m / 2 ≤ v → m - v ≡ nat_abs (signed_of m v)
size-under v m h k = rw (under v m h k) (omega arith)

-- an i16 that was stored is the number again
pub same16 : (z : ℤ) → mag z < 2 ^ 15 → to_z w16 (of_z w16 z) ≡ z
same16 z h = to_z-of_z {w = w16} (record { sfits = h })

module _ (v m : ℕ) (h : v < m) (k : m ≤ 32768) (l : m / 2 ≤ v) where
  pub less-fits : SFits w32 (to_z w32 v -ℤ to_z w32 m)
  less-fits = subst (λ (x : ℤ). SFits w32 x) (sym (minus v m h (omega arith))) (record { sfits = omega arith })

  less-is : to_z w32 (of_z w32 (to_z w32 v -ℤ to_z w32 m)) ≡ negsuc (m - suc v)
  less-is = to_z-of_z {w = w32} less-fits ∙ minus v m h (omega arith)

  pub less-fits16 : SFits w16 (to_z w32 (of_z w32 (to_z w32 v -ℤ to_z w32 m)))
  less-fits16 = subst (λ (x : ℤ). SFits w16 x) (sym less-is) (record { sfits = omega arith })

  pub less-signed : to_z w16 (of_z w16 (to_z w32 (of_z w32 (to_z w32 v -ℤ to_z w32 m)))) ≡ signed_of m v
  less-signed = to_z-of_z {w = w16} less-fits16 ∙ less-is ∙ sym (under v m h l)
