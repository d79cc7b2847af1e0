-- Laws of a word that holds the next 57 bits of an image: its parts are the image's fields.
use mathlib.Core.Path.{◌≡◌, ap, sym, ◌∙◌}
use mathlib.Core.Bool.{true}
use mathlib.Core.List.{List}
use Prim.Native.Nat.{ℕ, ◌+◌, ◌-◌, ◌*◌, ◌/◌, ◌%◌, ◌^◌, ◌≤◌}
use native.Mathlib.Nat.{add-mul, mul_assoc}
use native.Mathlib.Omega.{arith}
use borrow.Author.Tests.{le-leb}
use lib.IntN.{pos, nat_abs}
use lib.ListN.{length}
use lib.Pow.{pow-add, high, low, shl_lt, shl-shr, shr-shr}
use Rattle.bits.specs.Bits.{bits, field_at, ahead_of, part}
use Rattle.refusals.specs.declared.Cause.TheVariants.{PastEnd, PastLimits}
use Rattle.bits.specs.Place.{At, within, at_most, number_of, signed_at}
use Rattle.bits.specs.Signed.{signed_of}
use Rattle.std.specs.Prelude.{Some}
use Rattle.bits.proofs.BitsLaws.{bits-lt, bits-add, middle, value}
use Rattle.bits.proofs.ReadLaws.{number-is, read_right}

-- moved up by k, the first k bits are lost
shifted : (s : List ℕ) (o k d : ℕ) → (bits s o (k + d) * 2 ^ k) % 2 ^ (d + k) ≡ bits s (o + k) d * 2 ^ k
shifted s o k d =
    rw (bits-add s o k d, add-mul (bits s o k * 2 ^ d) (bits s (o + k) d) (2 ^ k), mul_assoc (bits s o k) (2 ^ d) (2 ^ k), ← pow-add 2 d k)
    (low (bits s o k) (d + k) (shl_lt d k (bits-lt s (o + k) d)))

pub moved_up : (s : List ℕ) (at v : ℕ) → v ≡ bits s (8 * (at / 8)) 64 → (v * 2 ^ (at % 8)) % 2 ^ 64 ≡ ahead_of s at
unfolding ahead_of
moved_up s at v e =
    let n : 64 ≡ at % 8 + (64 - at % 8) = omega arith in
    let m : 64 ≡ 64 - at % 8 + at % 8 = omega arith in
    let o : 8 * (at / 8) + at % 8 ≡ at = omega arith in
    ap (λ (x : ℕ). (x * 2 ^ (at % 8)) % 2 ^ 64) (e ∙ ap (bits s (8 * (at / 8))) n)
    ∙ ap (λ (x : ℕ). (bits s (8 * (at / 8)) (at % 8 + (64 - at % 8)) * 2 ^ (at % 8)) % 2 ^ x) m
    ∙ shifted s (8 * (at / 8)) (at % 8) (64 - at % 8)
    ∙ ap (λ (x : ℕ). bits s x (64 - at % 8) * 2 ^ (at % 8)) o

-- a word whose first 57 bits are those of an image from a bit on
pub record Front (s : List ℕ) (at w : ℕ) : Type 0 where
  pub whole : at + 57 ≤ 8 * length s
  pub holds : w / 2 ^ 7 ≡ bits s at 57

-- the first 57 of 57 + d bits that were moved up by k
top : (s : List ℕ) (o k d : ℕ) → bits s o (57 + d) * 2 ^ k / 2 ^ (k + d) ≡ bits s o 57
top s o k d =
    sym (shr-shr (bits s o (57 + d) * 2 ^ k) k d)
    ∙ ap (λ (x : ℕ). x / 2 ^ d) (shl-shr (bits s o (57 + d)) k ∙ bits-add s o 57 d)
    ∙ high (bits s o 57) d (bits-lt s (o + 57) d)

pub front : (s : List ℕ) (at w : ℕ) → at / 8 + 8 ≤ length s → w ≡ ahead_of s at → Front s at w
unfolding ahead_of
front s at w h e =
    let n : 64 - at % 8 ≡ 57 + (7 - at % 8) = omega arith in
    let m : 7 ≡ at % 8 + (7 - at % 8) = omega arith in
    record {
      whole = omega arith;
      holds = ap (λ (x : ℕ). x / 2 ^ 7) (e ∙ ap (λ (x : ℕ). bits s at x * 2 ^ (at % 8)) n)
          ∙ ap (λ (x : ℕ). bits s at (57 + (7 - at % 8)) * 2 ^ (at % 8) / 2 ^ x) m
          ∙ top s at (at % 8) (7 - at % 8);
    }

-- In front of the last d bits of the word stands the field of f bits, o bits behind the place.
module _ (s : List ℕ) (at w : ℕ) (x : Front s at w) (o f d : ℕ) (h : o + f + d ≡ 64) (l : 7 ≤ d) (q : ℕ) (e : q ≡ at + o) where
  part-is : part w d f ≡ bits s q f
  part-is =
      let n : d ≡ 7 + (d - 7) = omega arith in
      let m : 57 ≡ o + (f + (d - 7)) = omega arith in
      ap (λ (k : ℕ). w / 2 ^ k % 2 ^ f) n
      ∙ ap (λ (k : ℕ). k % 2 ^ f) (sym (shr-shr w 7 (d - 7)))
      ∙ ap (λ (k : ℕ). k / 2 ^ (d - 7) % 2 ^ f) (x.holds ∙ ap (bits s at) m)
      ∙ middle s at o f (d - 7)
      ∙ ap (λ (k : ℕ). bits s k f) (sym e)

  field_is : field_at s q f ≡ Some (part w d f)
  field_is = value s q f (omega (arith, x.whole)) ∙ ap Some (sym part-is)

  -- a part within its limits is the number read there
  pub number-ahead : {C : Type 0} (lo hi : ℕ) (past cause : C) → within lo hi (part w d f) ≡ true → record { item = part w d f; place = At (q + f) } ≡ number_of past s (At q) f lo hi cause
  number-ahead lo hi past cause k = number-is s q f lo hi past cause (part w d f) field_is k

  pub signed-ahead : (limit : ℕ) → nat_abs (signed_of (2 ^ f) (part w d f)) ≤ limit
      → record { item = signed_of (2 ^ f) (part w d f); place = At (q + f) } ≡ signed_at s (At q) f limit
  unfolding signed_at
  signed-ahead limit k =
      read_right (pos 0) (λ (v : ℕ). at_most limit (signed_of (2 ^ f) v)) (signed_of (2 ^ f)) PastEnd PastLimits f s q (part w d f) field_is
      (le-leb (nat_abs (signed_of (2 ^ f) (part w d f))) limit k)
