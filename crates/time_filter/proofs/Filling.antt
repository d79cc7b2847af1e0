-- The loop that writes a word for each span: what is written, and zeros behind it.
-- Assumes nothing.
use mathlib.Core.Path.{◌≡◌, refl, sym, ap, ◌∙◌}
use mathlib.Core.List.{List, [], ◌∷◌, ◌++◌, map}
use Prim.Native.Nat.{ℕ, zero, suc, ◌+◌, ◌-◌, ◌≤◌, ◌<◌}
use native.Mathlib.Numerals.{add-one}
use native.Mathlib.Omega.{arith}
use lib.ListN.{length, take, set, get_or, replicate, length-map}
use Rattle.std.proofs.lemmas.List.{take_all}

-- the length of an array of structs in a struct: `search (needs, length-mapped)`
pub length-mapped : (X Y : Type 0) (f : X → Y) (l : List X) (n : ℕ) → length (map f l) ≡ n → length l ≡ n
length-mapped X Y f l n h = sym (length-map l f) ∙ h

-- what a loop has written after i of the items
module _ {A : Type 0} (f : A → ℕ) where
  abbrev pub filled_to : List A → ℕ → List ℕ
  filled_to xs i = map f (take i xs) ++ replicate (8 - i) 0

  put_next : (xs : List A) (a : A) (i k : ℕ) → i < length xs →
      set (map f (take i xs) ++ (0 ∷ replicate k 0)) i (f (get_or xs i a)) ≡ map f (take (suc i) xs) ++ replicate k 0
  put_next [] a i k h = absurd (omega arith)
  put_next (x ∷ xs) a zero k h = refl
  put_next (x ∷ xs) a (suc i) k h = ap (λ (l : List ℕ). f x ∷ l) (put_next xs a i k (omega arith))

  pub fill_on : (xs : List A) (a : A) (i w : ℕ) → i < length xs → i < 8 → w ≡ f (get_or xs i a) → set (filled_to xs i) i w ≡ filled_to xs (i + 1)
  fill_on xs a i w h k e =
      let r : 8 - i ≡ suc (8 - (i + 1)) = omega arith in
      ap (λ (k : ℕ). set (map f (take i xs) ++ replicate k 0) i w) r
      ∙ ap (λ (v : ℕ). set (map f (take i xs) ++ (0 ∷ replicate (8 - (i + 1)) 0)) i v) e
      ∙ put_next xs a i (8 - (i + 1)) h
      ∙ ap (λ (k : ℕ). map f (take k xs) ++ replicate (8 - (i + 1)) 0) (sym (add-one i))

  pub fill_done : (xs : List A) (n i : ℕ) → length xs ≡ n → length xs ≤ i → i ≤ length xs → filled_to xs i ≡ map f xs ++ replicate (8 - n) 0
  fill_done xs n i e h k =
      let j : i ≡ n = omega arith in
      ap (λ (l : List A). map f l ++ replicate (8 - i) 0) (take_all i xs h)
      ∙ ap (λ (k : ℕ). map f xs ++ replicate (8 - k) 0) j
