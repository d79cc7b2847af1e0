-- What an insertion at minutes s to e leaves of ranges in order, on its two sides.
use Rattle.std.specs.Prelude.{cond, List, [], ◌∷◌, ℕ, leb}
use Rattle.ranges.specs.Range.{Range}
use Rattle.ranges.specs.Insertion.{end_at, start_at, ahead}

-- the ranges that end by s, and what is left of the next one
abbrev pub head_l : ℕ → List Range → List Range
head_l s [] = []
head_l s (r ∷ l) = cond (leb r.end s) (r ∷ head_l s l) (ahead (end_at s r) [])

-- what is left of the first range that ends after e, and the ranges behind it
abbrev pub rest_l : ℕ → List Range → List Range
rest_l e [] = []
rest_l e (r ∷ l) = cond (leb r.end e) (rest_l e l) (start_at e r ∷ l)
