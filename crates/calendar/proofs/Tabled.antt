-- A table holds a function's values: one test that antt computes over the whole table, entry by entry, and the law at each entry.
-- Assumes nothing.
use mathlib.Core.Path.{◌≡◌, ◌∙◌, subst, sym}
use mathlib.Core.Bool.{Bool, true, ◌&&◌}
use mathlib.Core.List.{List, [], ◌∷◌}
use Prim.Native.Nat.{ℕ, zero, suc, ◌+◌, ◌<◌}
use native.Mathlib.Nat.{add-zero, zero-add, add-suc, suc-add, le_of_suc-le-suc, not-suc-le-zero}
use lib.Dec.{T, eqb, eqb→eq}
use lib.ListN.{length, get_or}
use Rattle.calendar.proofs.Upto.{both_left, both_right}

-- the test f passes at each entry of the list and its place, counted from i
abbrev pub every : (ℕ → ℕ → Bool) → ℕ → List ℕ → Bool
every f i [] = true
every f i (x ∷ xs) = f i x && every f (suc i) xs

-- so it passes at each of them
from : (f : ℕ → ℕ → Bool) (xs : List ℕ) (i : ℕ) → T (every f i xs) → (k : ℕ) → k < length xs → T (f (i + k) (get_or xs k 0))
from f [] i t k h = absurd (not-suc-le-zero h)
from f (x ∷ xs) i t zero h = subst (λ (m : ℕ). T (f m x)) (sym (add-zero i)) (both_left (f i x) (every f (suc i) xs) t)
from f (x ∷ xs) i t (suc k) h =
    subst (λ (m : ℕ). T (f m (get_or xs k 0))) (suc-add i k ∙ sym (add-suc i k))
    (from f xs (suc i) (both_right (f i x) (every f (suc i) xs) t) k (le_of_suc-le-suc h))

at : (f : ℕ → ℕ → Bool) (xs : List ℕ) → T (every f 0 xs) → (k : ℕ) → k < length xs → T (f k (get_or xs k 0))
at f xs t k h = subst (λ (m : ℕ). T (f m (get_or xs k 0))) (zero-add k) (from f xs 0 t k h)

-- the entry at k is f k
abbrev pub is : (ℕ → ℕ) → ℕ → ℕ → Bool
is f k x = eqb x (f k)

pub tabled : (f : ℕ → ℕ) (xs : List ℕ) → T (every (is f) 0 xs) → (k : ℕ) → k < length xs → get_or xs k 0 ≡ f k
tabled f xs t k h = eqb→eq (get_or xs k 0) (f k) (at (is f) xs t k h)
