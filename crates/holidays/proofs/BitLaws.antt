-- A run of bits as a number: its ones are its set bits, its highest digit is its first set bit, and a mask leaves its last bits.
-- Assumes nothing.
use mathlib.Core.Path.{◌≡◌, refl, ap, ◌∙◌, subst}
use mathlib.Core.List.{List}
use Prim.Native.Nat.{ℕ, zero, suc, ◌+◌, ◌*◌, ◌-◌, ◌/◌, ◌%◌, ◌^◌, ◌≤◌, ◌<◌}
use native.Mathlib.Nat.{suc-mul, zero-mul, one-mul, add_comm}
use native.Mathlib.Omega.{arith}
use lib.Bits.{bit_and, and_mask}
use lib.Count.{ones, ones_step, ones-le, count_leading_zeros, leading_top}
use lib.Pow.{pow_mono, pow_pos, low, shl_exact}
use Rattle.bits.specs.Bits.{bits, bit_at}
use Rattle.bits.proofs.BitsLaws.{bits-add, bits-lt, bits-under}
use Rattle.holiday_image.proofs.Laws.{bits-one}
use Rattle.holiday_image.proofs.Named.{zero_bit}
use Rattle.holiday_image.proofs.Tests.{split}

-- the ones of a run
pub ones_none : (s : List ℕ) (at : ℕ) → ones (bits s at 0) ≡ 0
unfolding bits
ones_none s at = omega (arith, ones-le 0 0 (omega arith))

pub ones-more : (s : List ℕ) (at w : ℕ) → ones (bits s at (suc w)) ≡ ones (bits s at w) + bit_at s (at + w)
unfolding bits
ones-more s at w =
    let e : (bits s at w * 2 + bit_at s (at + w)) % 2 ≡ bit_at s (at + w) = omega arith in
    let f : (bits s at w * 2 + bit_at s (at + w)) / 2 ≡ bits s at w = omega arith in
    ones_step (bits s at w * 2 + bit_at s (at + w)) ∙ rw (e, f) (add_comm (bit_at s (at + w)) (ones (bits s at w)))

-- a mask of w ones leaves the last w bits
one_shl : (w : ℕ) → w ≤ 31 → (1 * 2 ^ w) % 2 ^ 32 ≡ 2 ^ w
one_shl w h = shl_exact {a = 1} 1 w 32 (omega arith) (omega arith) ∙ one-mul (2 ^ w)

pub mask-pos : (w : ℕ) → w ≤ 31 → 1 ≤ (1 * 2 ^ w) % 2 ^ 32
mask-pos w h = rw (one_shl w h) (pow_pos w)

last-bits : (s : List ℕ) (at p : ℕ) → p ≤ 31 → bits s at 31 % 2 ^ (31 - p) ≡ bits s (at + p) (31 - p)
last-bits s at p h =
    let e : 31 ≡ p + (31 - p) = omega arith in
    let f : bits s at 31 ≡ bits s at p * 2 ^ (31 - p) + bits s (at + p) (31 - p) = ap (bits s at) e ∙ bits-add s at p (31 - p) in
    ap (λ (x : ℕ). x % 2 ^ (31 - p)) f ∙ low (bits s at p) (31 - p) (bits-lt s (at + p) (31 - p))

pub masked : (s : List ℕ) (at p r : ℕ) → p ≤ 31 → r ≡ bits s at 31 → bit_and r ((1 * 2 ^ (31 - p)) % 2 ^ 32 - 1) ≡ bits s (at + p) (31 - p)
masked s at p r h e =
    ap (λ (x : ℕ). bit_and r (x - 1)) (one_shl (31 - p) (omega arith))
    ∙ and_mask r (31 - p)
    ∙ ap (λ (x : ℕ). x % 2 ^ (31 - p)) e
    ∙ last-bits s at p h

-- the first set bit of a run

none_above : (a p x : ℕ) → a * p + x < p → a ≡ 0
none_above zero p x h = refl
none_above (suc a) p x h = absurd (omega (arith, suc-mul a p))

some_at : (a p x : ℕ) → p ≤ a * p + x → x < p → 1 ≤ a
some_at zero p x h l = absurd (omega arith)
some_at (suc a) p x h l = omega arith

-- z bits of 0, then one of 1
pub record FirstSet (s : List ℕ) (at z : ℕ) : Type 0 where
  pub clear : bits s at z ≡ 0
  pub set : bit_at s (at + z) ≡ 1

first-set : (s : List ℕ) (at z j : ℕ) → 2 ^ j ≤ bits s at (z + suc j) → bits s at (z + suc j) < 2 ^ suc j → FirstSet s at z
first-set s at z j l h =
    let a : bits s at (z + suc j) ≡ bits s at z * 2 ^ suc j + bits s (at + z) (suc j) = bits-add s at z (suc j) in
    let q : suc j ≡ 1 + j = omega arith in
    let b : bits s (at + z) (suc j) ≡ bits s (at + z) 1 * 2 ^ j + bits s (at + z + 1) j = ap (bits s (at + z)) q ∙ bits-add s (at + z) 1 j in
    let c : bits s at z ≡ 0 = none_above (bits s at z) (2 ^ suc j) (bits s (at + z) (suc j)) (omega arith) in
    let d : bits s at z * 2 ^ suc j ≡ 0 = ap (λ (x : ℕ). x * 2 ^ suc j) c ∙ zero-mul (2 ^ suc j) in
    let e : 1 ≤ bits s (at + z) 1 = some_at (bits s (at + z) 1) (2 ^ j) (bits s (at + z + 1) j) (omega arith) (bits-lt s (at + z + 1) j) in
    record { clear = c; set = omega (arith, bits-lt s (at + z) 1, bits-one s (at + z)) }

-- the leading zeros of a run of 31 - p bits in a word of 32 bits count, from 1 on, to its first set bit, the p bits in front of it included
pub record FirstDay (s : List ℕ) (at p d : ℕ) : Type 0 where
  pub later : p < d
  pub inside : d ≤ 31
  pub set : bit_at s (at + (d - 1)) ≡ 1
  pub clear : (k : ℕ) → p < k → k < d → bit_at s (at + (k - 1)) ≡ 0

below : (j w v : ℕ) → 2 ^ j ≤ v → v < 2 ^ w → j < w
below j w v l h = split j w (λ k. k) (λ k. absurd (omega (arith, pow_mono k)))

pub first-day : (s : List ℕ) (at p v : ℕ) → p ≤ 31 → v ≡ bits s (at + p) (31 - p) → 0 < v → FirstDay s at p (count_leading_zeros 32 v)
first-day s at p v h e n =
    let u : v < 2 ^ 32 = rw e (bits-under s (at + p) (31 - p) 32 (omega arith)) in
    let w : v < 2 ^ (31 - p) = rw e (bits-lt s (at + p) (31 - p)) in
    let t = leading_top 32 v n u in
    made (count_leading_zeros 32 v) t.0 t.1 t.2 t.3 (below t.0 (31 - p) v t.2 w)
  where
    made : (z j : ℕ) → z + suc j ≡ 32 → 2 ^ j ≤ v → v < 2 ^ suc j → j < 31 - p → FirstDay s at p z
    made z j q l g k =
        let a : 31 - p ≡ z - (p + 1) + suc j = omega arith in
        let b : v ≡ bits s (at + p) (z - (p + 1) + suc j) = e ∙ ap (bits s (at + p)) a in
        let f = first-set s (at + p) (z - (p + 1)) j (rw b at l) (rw b at g) in
        record {
          later = omega arith;
          inside = omega arith;
          set = subst (λ (i : ℕ). bit_at s i ≡ 1) (place z (omega arith)) f.set;
          clear =
              λ i m o.
              subst (λ (x : ℕ). bit_at s x ≡ 0) (place i m)
              (zero_bit s (at + p) (z - (p + 1)) (i - (p + 1)) f.clear (omega arith));
        }
      where
        place : (i : ℕ) → p < i → at + p + (i - (p + 1)) ≡ at + (i - 1)
        place i m = omega arith
