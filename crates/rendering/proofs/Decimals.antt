-- The decimal form of a number: its length, its digits from the last to the first, its value, and that no zero leads it.
use mathlib.Core.Path.{◌≡◌, refl, ap, ◌∙◌}
use mathlib.Core.List.{List, [], ◌∷◌, ◌++◌}
use Prim.Native.Nat.{ℕ, zero, suc, ◌+◌, ◌-◌, ◌*◌, ◌/◌, ◌%◌, ◌^◌, ◌≤◌, ◌<◌}
use native.Mathlib.Omega.{arith}
use lib.ListN.{length, length-append, get_or, set}
use lib.Seq.{sets}
use borrow.Author.Tests.{lt-ltb, le-ltb}
use Rattle.ranges.proofs.Cases.{split}
use Rattle.rendering.specs.Text.{digit, decimal_in, decimal}
use Rattle.rendering.specs.Writing.{Wrote}
use Rattle.rendering.proofs.Stores.{back_step}

-- one digit, or the last digit behind the others
pub decimal-one : (k n : ℕ) → n < 10 → decimal_in (suc k) n ≡ digit n ∷ []
unfolding decimal_in
decimal-one k n h = rw (lt-ltb n 10 h)

pub decimal-more : (k n : ℕ) → 10 ≤ n → decimal_in (suc k) n ≡ decimal_in k (n / 10) ++ (digit (n % 10) ∷ [])
unfolding decimal_in
decimal-more k n h = rw (le-ltb n 10 h)

-- exactly k digits, the last of n
abbrev pub digits : ℕ → ℕ → List ℕ
digits zero n = []
digits (suc k) n = digits k (n / 10) ++ (digit (n % 10) ∷ [])

pub length_digits : (k n : ℕ) → length (digits k n) ≡ k
length_digits zero n = refl
length_digits (suc k) n = let e = length_digits k (n / 10) in simp length-append (omega arith)

pub decimal-none : (n : ℕ) → decimal_in 0 n ≡ []
unfolding decimal_in
decimal-none n = refl

length_more : (k n : ℕ) → 10 ≤ n → length (decimal_in (suc k) n) ≡ suc (length (decimal_in k (n / 10)))
length_more k n h = rw (decimal-more k n h, length-append (decimal_in k (n / 10)) (digit (n % 10) ∷ [])) (omega arith)

-- The decimal form is as many digits as it is long.
pub digits_decimal : (k n : ℕ) → digits (length (decimal_in k n)) n ≡ decimal_in k n
digits_decimal zero n = rw (decimal-none n)
digits_decimal (suc k) n =
    split n 10
    (λ h. let e : n % 10 ≡ n = omega arith in rw (decimal-one k n h, e))
    (λ h. rw (length_more k n h, decimal-more k n h, digits_decimal k (n / 10)))

-- At most as many digits as there may be.
pub decimal-few : (k n : ℕ) → length (decimal_in k n) ≤ k
decimal-few zero n = rw (decimal-none n) (omega arith)
decimal-few (suc k) n =
    split n 10
    (λ h. rw (decimal-one k n h) (omega arith))
    (λ h. omega (arith, length_more k n h, decimal-few k (n / 10)))

-- A number below a power of ten has at most as many digits as the power: each step takes off one of both.
pub decimal-short : (k m n : ℕ) → n < 10 ^ suc m → length (decimal_in k n) ≤ suc m
decimal-short zero m n h = rw (decimal-none n) (omega arith)
decimal-short (suc k) zero n h = rw (decimal-one k n (omega arith)) (omega arith)
decimal-short (suc k) (suc m) n h =
    split n 10
    (λ l. rw (decimal-one k n l) (omega arith))
    (λ l. omega (arith, length_more k n l, decimal-short k m (n / 10) (omega arith)))

-- The digits counted so far, with those of what is left of the number, are those of the number.
pub record Counted (n k rest : ℕ) : Type 0 where
  pub left : ℕ
  pub turns : k + left ≡ 20
  pub size : rest < 10 ^ suc left
  pub is : length (decimal n) + 1 ≡ k + length (decimal_in (suc left) rest)

pub counted-begin : (n : ℕ) → n < 18446744073709551616 → Counted n 1 n
counted-begin n h = record { left = 19; turns = refl; size = omega arith; is = omega arith }

pub counted-more : (n k rest : ℕ) → 9 < rest → Counted n k rest → Counted n (k + 1) (rest / 10)
counted-more n k rest h c = go c.left c.turns c.size c.is
  where
    go : (left : ℕ) → k + left ≡ 20 → rest < 10 ^ suc left → length (decimal n) + 1 ≡ k + length (decimal_in (suc left) rest) → Counted n (k + 1) (rest / 10)
    go zero t s e = absurd (omega arith)
    go (suc left) t s e = record { left = left; turns = omega arith; size = omega arith; is = omega (arith, length_more (suc left) rest h) }

pub counted-all : (n k rest : ℕ) → rest ≤ 9 → Counted n k rest → k ≡ length (decimal n)
counted-all n k rest h c = omega (arith, c.is, ap length (decimal-one c.left rest (omega arith)))

-- The last digit stored before the others.
pub last-digit : (o : List ℕ) (at p rest : ℕ) → at < p → sets (set o (p - 1) (digit (rest % 10))) at (digits (p - 1 - at) (rest / 10)) ≡ sets o at (digits (p - at) rest)
last-digit o at p rest h =
    let k = p - 1 - at in
    let e : p - at ≡ suc k = omega arith in
    let i : p - 1 ≡ at + length (digits k (rest / 10)) = rw (length_digits k (rest / 10)) (omega arith) in
    rw e (ap (λ (j : ℕ). sets (set o j (digit (rest % 10))) at (digits k (rest / 10))) i ∙ back_step (digits k (rest / 10)) o at (digit (rest % 10)))

-- With no digit left to store, the decimal form stands there.
pub stored-all : (o o' : List ℕ) (at p rest n w : ℕ) → w ≡ length (decimal n) → p ≤ at → sets o' at (digits (p - at) rest) ≡ sets o at (digits (at + w - at) n) → Wrote o at (decimal n) o' (at + w)
stored-all o o' at p rest n w e h k =
    let z : p - at ≡ 0 = omega arith in
    let l : at + w - at ≡ length (decimal n) = omega arith in
    record { next = omega arith; holds = rw (z, l, digits_decimal 20 n) at k }

-- the number that digits make
abbrev pub value : List ℕ → ℕ → ℕ
value [] so_far = so_far
value (d ∷ l) so_far = value l (so_far * 10 + (d - 48))

value-last : (l : List ℕ) (d a : ℕ) → value (l ++ (d ∷ [])) a ≡ value l a * 10 + (d - 48)
value-last [] d a = refl
value-last (x ∷ l) d a = value-last l d (a * 10 + (x - 48))

leads-append : (xs ys : List ℕ) → 48 < get_or xs 0 0 → 48 < get_or (xs ++ ys) 0 0
leads-append [] ys h = absurd (omega arith)
leads-append (x ∷ xs) ys h = h

-- THE DECIMAL FORM SAYS THE NUMBER, if that fits: its value is ten times that of the others, and the last digit.
pub decimal-value : (k n : ℕ) → n < 10 ^ k → value (decimal_in k n) 0 ≡ n
decimal-value zero n h = rw (decimal-none n) (omega arith)
decimal-value (suc k) n h =
    split n 10
    (λ l. rw (decimal-one k n l) (omega arith))
    (λ l. rw (decimal-more k n l, value-last (decimal_in k (n / 10)) (digit (n % 10)) 0, decimal-value k (n / 10) (omega arith)) (omega arith))

-- NO ZERO LEADS IT: the first digit is that of a number from 1 to 9.
pub decimal-leads : (k n : ℕ) → 0 < n → n < 10 ^ k → 48 < get_or (decimal_in k n) 0 0
decimal-leads zero n h l = absurd (omega arith)
decimal-leads (suc k) n h l =
    split n 10
    (λ m. rw (decimal-one k n m) (omega arith))
    (λ m. let d = decimal-leads k (n / 10) (omega arith) (omega arith) in rw (decimal-more k n m) (leads-append (decimal_in k (n / 10)) (digit (n % 10) ∷ []) d))
