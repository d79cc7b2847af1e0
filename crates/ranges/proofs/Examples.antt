-- The two worked additions of the rules, by computing the definitions.
use mathlib.Core.Path.{◌≡◌, refl}
use mathlib.Core.List.{[], ◌∷◌}
use Prim.Native.Nat.{ℕ}
use Rattle.ranges.specs.Range.{Range}
use Rattle.ranges.specs.Insertion.{add_r}

abbrev pub range : ℕ → ℕ → ℕ → ℕ → Range
range a b k c = record { start = a; end = b; kind = k; comment = c }

-- open 600-1080 plus unknown 720-780: three ranges
pub three-ranges : add_r (range 600 1080 0 0 ∷ []) (range 720 780 2 0 ∷ []) ≡ range 600 720 0 0 ∷ range 720 780 2 0 ∷ range 780 1080 0 0 ∷ []
three-ranges = refl

-- open 600-1080 plus open 1080-1200: one, 600-1200
pub one-range : add_r (range 600 1080 0 0 ∷ []) (range 1080 1200 0 0 ∷ []) ≡ range 600 1200 0 0 ∷ []
one-range = refl
