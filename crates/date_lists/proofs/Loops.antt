-- The loop over the first n items of a room: what holds of those left holds of all.
-- Assumes nothing.
use mathlib.Core.Path.{◌≡◌, refl, sym, ◌∙◌}
use mathlib.Core.Bool.{Bool, true, false, ◌||◌, false≢true}
use borrow.Author.Tests.{eqb-true}
use lib.Dec.{eqb}
use mathlib.Core.List.{List, [], ◌∷◌, map}
use Prim.Native.Nat.{ℕ, zero, suc, ◌+◌, ◌≤◌, ◌<◌}
use native.Mathlib.Numerals.{add-one}
use native.Mathlib.Omega.{arith}
use lib.ListN.{length, take, drop, get_or, length-take, length-map, drop_of_length-le}
use lib.Seq.{drop-cons, get_or-take, take-length}
use Rattle.date_ranges.specs.Ranges.{some}
use Rattle.std.specs.List.{list_any}
use Rattle.date_lists.specs.Lists.{list_matches}

-- the length of an array of structs, as it is known
pub length-mapped : (X Y : Type 0) (f : X → Y) (l : List X) (n : ℕ) → length (map f l) ≡ n → length l ≡ n
length-mapped X Y f l n h = sym (length-map l f) ∙ h

-- the next item of the part that is still to be read, and where nothing is left
peel : {A : Type 0} (xs : List A) (n i : ℕ) (d : A) → i < n → n ≤ length xs → drop i (take n xs) ≡ get_or xs i d ∷ drop (i + 1) (take n xs)
peel xs n i d h k = let l : i < length (take n xs) = simp length-take (omega arith) in rw (add-one, drop-cons (take n xs) i d, get_or-take n xs i d)

peeled : {A : Type 0} (xs : List A) (n i : ℕ) → n ≤ i → drop i (take n xs) ≡ []
peeled xs n i h = drop_of_length-le (take n xs) {i = i} (simp length-take (omega arith))

pub record Looked {A : Type 0} (p : A → Bool) (xs : List A) (n i : ℕ) : Type 0 where
  pub long : n ≤ length xs
  pub upto : i ≤ n
  pub left : some p (take n xs) ≡ some p (drop i (take n xs))

some-cons : {A : Type 0} (p : A → Bool) (x : A) (xs : List A) → some p (x ∷ xs) ≡ (p x || some p xs)
unfolding some
some-cons p x xs = refl

some-nil : {A : Type 0} (p : A → Bool) → some p [] ≡ false
unfolding some
some-nil p = refl

module _ {A : Type 0} (p : A → Bool) (xs : List A) (n : ℕ) where
  pub looking : n ≤ length xs → Looked p xs n 0
  looking h = record { long = h; upto = omega arith; left = refl }

  module _ (i : ℕ) (st : Looked p xs n i) where
    module _ (none : A) (h : i < n) (b : Bool) (e : b ≡ p (get_or xs i none)) where
      first : some p (drop i (take n xs)) ≡ (b || some p (drop (i + 1) (take n xs)))
      first = rw (peel xs n i none h st.long, some-cons p (get_or xs i none), ← e)

      pub found : b ≡ true → true ≡ some p (take n xs)
      found f = sym (rw (first, f) at st.left)

      pub passed : b ≡ false → Looked p xs n (i + 1)
      passed f = record { long = st.long; upto = omega arith; left = rw (first, f) at st.left }

    pub ended : n ≤ i → false ≡ some p (take n xs)
    ended h = sym (rw (peeled xs n i h, some-nil p) at st.left)

-- What std's any walks over: a match that is found, an item that is passed, and the end tell of all items.
module _ {A : Type 0} (p : A → Bool) (xs : List A) (n : ℕ) (none : A) where
  stepped : (i : ℕ) → Looked p xs n i → i < n → (Looked p xs n (i + 1) → list_any p (drop (i + 1) (take n xs)) ≡ some p (take n xs)) → list_any p (drop i (take n xs)) ≡ some p (take n xs)
  stepped i st h more = by (p (get_or xs i none)) refl
    where
      by : (b : Bool) → b ≡ p (get_or xs i none) → list_any p (drop i (take n xs)) ≡ some p (take n xs)
      by true f = rw (peel xs n i none h st.long, ← f) (found p xs n i st none h true f refl)
      by false f = rw (peel xs n i none h st.long, ← f) (more (passed p xs n i st none h false f refl))

  walked : (k i : ℕ) → i + k ≡ n → Looked p xs n i → list_any p (drop i (take n xs)) ≡ some p (take n xs)
  walked zero i e st = rw (peeled xs n i (omega arith)) (ended p xs n i st (omega arith))
  walked (suc k) i e st = stepped i st (omega arith) (walked k (i + 1) (omega arith))

pub some_any : {A : Type 0} (p : A → Bool) (xs : List A) → some p xs ≡ list_any p xs
some_any p [] = some-nil p
some_any {A} p (x ∷ xs) =
    let n = length (x ∷ xs) in
    let w : list_any p (drop 0 (take n (x ∷ xs))) ≡ some p (take n (x ∷ xs)) = walked {A = A} p (x ∷ xs) n x n 0 (omega arith) (looking p (x ∷ xs) n (omega arith)) in
    sym (rw (take-length xs) at w)

-- an empty list asks for nothing, another for an item that matches
module _ {A : Type 0} (p : A → Bool) where
  pub none_listed : (xs : List A) (b : Bool) → b ≡ true → b ≡ eqb (length xs) 0 → b ≡ list_matches p xs
  unfolding list_matches
  none_listed [] b t e = t
  none_listed (x ∷ xs) b t e = let z = eqb-true (length (x ∷ xs)) 0 (sym e ∙ t) in absurd (omega arith)

  pub any_listed : (xs : List A) (b : Bool) → b ≡ false → b ≡ eqb (length xs) 0 → list_any p xs ≡ list_matches p xs
  unfolding list_matches
  any_listed [] b f e = absurd (false≢true (sym f ∙ e))
  any_listed (x ∷ xs) b f e = sym (some_any p (x ∷ xs))
