-- Laws of tests joined by `&&`, and of a test at each of the numbers 1 to n.
-- Assumes nothing.
use mathlib.Core.Path.{◌≡◌, refl, sym, ◌∙◌, subst}
use mathlib.Core.Bool.{Bool, true, false, ◌&&◌, false≢true}
use Prim.Native.Nat.{ℕ, zero, suc, ◌+◌, ◌-◌, ◌≤◌, ◌<◌}
use native.Mathlib.Decide.{ℕ_discrete}
use native.Mathlib.Numerals.{add-one}
use native.Mathlib.Omega.{arith}
use lib.Dec.{ltb}
use borrow.Author.Tests.{ltb-true, ltb-false}
use Rattle.holiday_image.specs.Image.{every}

pub and_left : (a b : Bool) → a && b ≡ true → a ≡ true
and_left true b h = refl
and_left false b h = h

pub and_right : (a b : Bool) → a && b ≡ true → b ≡ true
and_right true b h = h
and_right false b h = absurd (false≢true h)

pub and-false : (a : Bool) → a && false ≡ false
and-false true = refl
and-false false = refl

-- one of two orders holds
pub split : {G : Type 0} (a b : ℕ) → (a < b → G) → (b ≤ a → G) → G
split {G} a b f g = go (ltb a b) refl
  where
    go : (q : Bool) → ltb a b ≡ q → G
    go true e = f (ltb-true a b e)
    go false e = g (ltb-false a b e)

-- a test passed up to n and at n + 1 is passed up to n + 1
pub every_more : (p : ℕ → Bool) (n : ℕ) → every p n ≡ true → p (n + 1) ≡ true → every p (n + 1) ≡ true
unfolding every
every_more p n h k = rw (add-one n) (rw h (rw (add-one n) at k))

-- the same, counted one later
pub every_next : (p : ℕ → Bool) (n : ℕ) → 1 ≤ n → every p (n - 1) ≡ true → p n ≡ true → every p (n + 1 - 1) ≡ true
every_next p n l h k =
    let e : n + 1 - 1 ≡ n - 1 + 1 = omega arith in
    let f : n - 1 + 1 ≡ n = omega arith in
    rw e (every_more p (n - 1) h (rw f k))

-- a test that fails once fails
pub every-no : (p : ℕ → Bool) (n k : ℕ) → 1 ≤ k → k ≤ n → p k ≡ false → every p n ≡ false
unfolding every
every-no p zero k l h e = absurd (omega arith)
every-no p (suc n) k l h e = by_cases (ℕ_discrete k (suc n)) (every-no p n k l)
  where
    by_cases : Dec (k ≡ suc n) → (k ≤ n → p k ≡ false → every p n ≡ false) → every p n && p (suc n) ≡ false
    by_cases (yes f) r = let g : p (suc n) ≡ false = subst (λ (m : ℕ). p m ≡ false) f e in rw g (and-false (every p n))
    by_cases (no f) r = let g : every p n ≡ false = r (omega arith) e in rw g

-- a test passed up to n is passed at each of them
pub every-at : (p : ℕ → Bool) (n k : ℕ) → 1 ≤ k → k ≤ n → every p n ≡ true → p k ≡ true
every-at p n k l h e = by_cases (p k) refl
  where
    by_cases : (b : Bool) → p k ≡ b → p k ≡ true
    by_cases true f = f
    by_cases false f = absurd (false≢true (sym (every-no p n k l h f) ∙ e))
