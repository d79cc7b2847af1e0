-- Laws of a number made of bits, each over every width: what comes in front and behind is a sum, so whole bytes give a field by a quotient and a remainder.
use mathlib.Core.Path.{◌≡◌, ap, sym, ◌∙◌}
use mathlib.Core.Bool.{Bool, true, false, cond}
use mathlib.Core.List.{List, [], ◌∷◌}
use Prim.Native.Nat.{ℕ, zero, suc, ◌+◌, ◌-◌, ◌*◌, ◌/◌, ◌%◌, ◌^◌, ◌<◌, ◌≤◌}
use native.Mathlib.Nat.{pow-suc, add-suc, add-zero, mul_assoc, add_assoc, add-mul, one-mul, mod-lt}
use native.Mathlib.Numerals.{add-one}
use native.Mathlib.Omega.{arith}
use lib.Dec.{leb}
use lib.ListN.{length, get_or}
use lib.Pow.{pow_mono, pow-add, pow_pos, high, low, shl_exact, shr-shr}
use borrow.Author.Tests.{le-leb, lt-leb}
use Rattle.std.specs.Prelude.{Some, None}
use Rattle.std.specs.Int.{from_be_bytes, w64}
use Rattle.bits.specs.Bits.{bits, bit_at, field_at}

pub bits-more : (s : List ℕ) (at k : ℕ) → bits s at (k + 1) ≡ bits s at k * 2 + bit_at s (at + k)
unfolding bits
bits-more s at k = rw (add-one, bits)

-- w bits make a number below 2 ^ w
pub bits-lt : (s : List ℕ) (at w : ℕ) → bits s at w < 2 ^ w
unfolding bits
bits-lt s at zero = omega arith
bits-lt s at (suc w) = rw pow-suc (omega (arith, bits-lt s at w))

pub bits-under : (s : List ℕ) (at w j : ℕ) → w ≤ j → bits s at w < 2 ^ j
bits-under s at w j h = omega (arith, bits-lt s at w, pow_mono h)

-- a + b bits: the first a, then b
pub bits-add : (s : List ℕ) (at a b : ℕ) → bits s at (a + b) ≡ bits s at a * 2 ^ b + bits s (at + a) b
unfolding bits
bits-add s at a zero = rw add-zero (omega arith)
bits-add s at a (suc b) =
    rw (add-suc, pow-suc, bits, bits-add s at a b, ← mul_assoc (bits s at a) (2 ^ b) 2, ← add_assoc at a b) (omega arith)

-- the first k bits of a byte
top-bits : (s : List ℕ) (j k : ℕ) → k ≤ 8 → get_or s j 0 < 256 → bits s (8 * j) k ≡ get_or s j 0 / 2 ^ (8 - k)
top-bits s j zero h l = omega (arith, bits-lt s (8 * j) 0)
top-bits s j (suc k) h l =
    let a : suc k ≡ k + 1 = omega arith in
    let b : (8 * j + k) / 8 ≡ j = omega arith in
    let c : (8 * j + k) % 8 ≡ k = omega arith in
    let d : 7 - k ≡ 8 - suc k = omega arith in
    let e : 8 - k ≡ 8 - suc k + 1 = omega arith in
    let f : get_or s j 0 / 2 ^ (8 - suc k) / 2 ^ 1 ≡ get_or s j 0 / 2 ^ (8 - suc k + 1) = shr-shr (get_or s j 0) (8 - suc k) 1 in
    ap (λ (n : ℕ). bits s (8 * j) n) a ∙ bits-more s (8 * j) k
    ∙ rw (b, c, d, top-bits s j k (omega arith) l, e, ← f) (omega arith)

-- a byte is the number of its bits
pub byte-is : (s : List ℕ) (j : ℕ) → get_or s j 0 < 256 → bits s (8 * j) 8 ≡ get_or s j 0
byte-is s j l = top-bits s j 8 (omega arith) l ∙ omega arith

-- one byte more behind k bytes
pub byte_next : (s : List ℕ) (i k : ℕ) → get_or s (i + k) 0 < 256 → bits s (8 * i) (8 * k) * 256 + get_or s (i + k) 0 ≡ bits s (8 * i) (8 * k + 8)
byte_next s i k l =
    let g : 8 * i + 8 * k ≡ 8 * (i + k) = omega arith in
    rw (bits-add s (8 * i) (8 * k) 8, g, byte-is s (i + k) l)

-- eight bytes make the number of their 64 bits
pub eight_is : (s : List ℕ) (i : ℕ) → ((j : ℕ) → get_or s j 0 < 256)
    → from_be_bytes w64 (get_or s i 0 ∷ get_or s (i + 1) 0 ∷ get_or s (i + 2) 0 ∷ get_or s (i + 3) 0 ∷ get_or s (i + 4) 0 ∷ get_or s (i + 5) 0 ∷ get_or s (i + 6) 0 ∷ get_or s (i + 7) 0 ∷ []) ≡ bits s (8 * i) 64
eight_is s i l =
    let e0 : bits s (8 * i) 8 ≡ get_or s i 0 = byte-is s i (l i) in
    let e1 : bits s (8 * i) 16 ≡ bits s (8 * i) 8 * 256 + get_or s (i + 1) 0 = sym (byte_next s i 1 (l (i + 1))) in
    let e2 : bits s (8 * i) 24 ≡ bits s (8 * i) 16 * 256 + get_or s (i + 2) 0 = sym (byte_next s i 2 (l (i + 2))) in
    let e3 : bits s (8 * i) 32 ≡ bits s (8 * i) 24 * 256 + get_or s (i + 3) 0 = sym (byte_next s i 3 (l (i + 3))) in
    let e4 : bits s (8 * i) 40 ≡ bits s (8 * i) 32 * 256 + get_or s (i + 4) 0 = sym (byte_next s i 4 (l (i + 4))) in
    let e5 : bits s (8 * i) 48 ≡ bits s (8 * i) 40 * 256 + get_or s (i + 5) 0 = sym (byte_next s i 5 (l (i + 5))) in
    let e6 : bits s (8 * i) 56 ≡ bits s (8 * i) 48 * 256 + get_or s (i + 6) 0 = sym (byte_next s i 6 (l (i + 6))) in
    let e7 : bits s (8 * i) 64 ≡ bits s (8 * i) 56 * 256 + get_or s (i + 7) 0 = sym (byte_next s i 7 (l (i + 7))) in
    omega (arith, e0, e1, e2, e3, e4, e5, e6, e7)

-- a field between the bits in front of it and those behind it
pub middle : (s : List ℕ) (o a w d : ℕ) → bits s o (a + (w + d)) / 2 ^ d % 2 ^ w ≡ bits s (o + a) w
middle s o a w d =
    rw (bits-add s o a (w + d), bits-add s (o + a) w d, pow-add 2 w d, ← mul_assoc (bits s o a) (2 ^ w) (2 ^ d))
    (ap (λ (x : ℕ). x / 2 ^ d % 2 ^ w) (join (bits s o a * 2 ^ w) (bits s (o + a) w) (2 ^ d) (bits s (o + a + w) d))
    ∙ ap (λ (x : ℕ). x % 2 ^ w) (high (bits s o a * 2 ^ w + bits s (o + a) w) d (bits-lt s (o + a + w) d))
    ∙ low (bits s o a) w (bits-lt s (o + a) w))
  where
    join : (p q k r : ℕ) → p * k + (q * k + r) ≡ (p + q) * k + r
    join p q k r = rw (add-mul p q k) (omega arith)

-- the field out of a window of 64 bits
pub from-window : (s : List ℕ) (at w v r : ℕ) → w ≤ 32 → v ≡ bits s (8 * (at / 8)) 64 → r ≡ v / 2 ^ (64 - (at % 8 + w)) % 2 ^ w → r ≡ bits s at w
from-window s at w v r h e f =
    let n : 64 ≡ at % 8 + (w + (64 - (at % 8 + w))) = omega arith in
    let m : 8 * (at / 8) + at % 8 ≡ at = omega arith in
    let g : bits s (8 * (at / 8)) 64 ≡ bits s (8 * (at / 8)) (at % 8 + (w + (64 - (at % 8 + w)))) = ap (bits s (8 * (at / 8))) n in
    rw (f, e, g, middle s (8 * (at / 8)) (at % 8) w (64 - (at % 8 + w)), m)

pub one_shl : (w : ℕ) → w ≤ 32 → (1 * 2 ^ w) % 2 ^ 64 ≡ 2 ^ w
one_shl w h = shl_exact {a = 1} 1 w 64 (omega arith) (omega arith) ∙ one-mul (2 ^ w)

pub one-pos : (w : ℕ) → w ≤ 32 → 0 < (1 * 2 ^ w) % 2 ^ 64
one-pos w h = rw (one_shl w h) (pow_pos w)

-- a remainder by 2 ^ w fits in 32 bits
pub rest_lt : (v w : ℕ) → w ≤ 32 → v % ((1 * 2 ^ w) % 2 ^ 64) < 2 ^ 32
rest_lt v w h = rw (one_shl w h) (omega (arith, mod-lt v (pow_pos w), pow_mono {j = 32} h))

pub rest-is : (v w : ℕ) → w ≤ 32 → v % ((1 * 2 ^ w) % 2 ^ 64) ≡ v % 2 ^ w
rest-is v w h = rw (one_shl w h)

-- the field out of the bytes that it touches
pub from_bytes : (s : List ℕ) (at w f e v : ℕ) → w ≤ 32 → f ≡ at / 8 → e ≡ (at + w + 7) / 8 → v ≡ bits s (8 * f) (8 * (e - f))
    → v / 2 ^ (8 * e - (at + w)) % ((1 * 2 ^ w) % 2 ^ 64) ≡ bits s at w
from_bytes s at w f e v h i j k =
    let n : 8 * (e - f) ≡ at % 8 + (w + (8 * e - (at + w))) = omega arith in
    let m : 8 * f + at % 8 ≡ at = omega arith in
    rw (one_shl w h, k, n, middle s (8 * f) (at % 8) w (8 * e - (at + w)), m)

pub past : (s : List ℕ) (at w : ℕ) → 8 * length s < at + w → field_at s at w ≡ None
unfolding field_at
past s at w h = rw (lt-leb (at + w) (8 * length s) h)

pub value : (s : List ℕ) (at w : ℕ) → at + w ≤ 8 * length s → field_at s at w ≡ Some (bits s at w)
unfolding field_at
value s at w h = rw (le-leb (at + w) (8 * length s) h)

-- what a field holds has at most its width
pub value-lt : (s : List ℕ) (at w v : ℕ) → field_at s at w ≡ Some v → v < 2 ^ w
unfolding field_at
value-lt s at w v e = by (leb (at + w) (8 * length s)) e
  where
    by : (b : Bool) → cond b (Some (bits s at w)) None ≡ Some v → v < 2 ^ w
    by true f = let g : bits s at w ≡ v = cc in omega (arith, bits-lt s at w)
    by false f = let z : ◌≡◌ {A = ℕ} 0 1 = cc in absurd (omega arith)
