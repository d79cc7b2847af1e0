-- Closed ranges without comment.
use Rattle.std.specs.Prelude.{Bool, true, cond, List, [], ◌∷◌, eqb}
use Rattle.ranges.specs.Range.{Range, both}

abbrev pub blank_b : Range → Bool
blank_b r = both (eqb r.kind 1) (eqb r.comment 0)

-- nothing but closed with comment 0 is shown
abbrev pub shut_b : List Range → Bool
shut_b [] = true
shut_b (r ∷ l) = both (blank_b r) (shut_b l)

abbrev pub drop_r : List Range → List Range
drop_r [] = []
drop_r (r ∷ l) = cond (blank_b r) (drop_r l) (r ∷ drop_r l)
