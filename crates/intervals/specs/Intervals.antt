-- 'Other dates': the starts and ends of some years, as day numbers in the years' order, where a year may have none; and what they say of a day.
-- Assumes nothing.
use Rattle.std.specs.Prelude.{ℕ, Bool, false, cond, List, [], ◌∷◌, Option, eqb, leb, ltb}
use Rattle.std.specs.List.{flat_map}
use Rattle.std.specs.Option.{option_to_list}

-- 1900-01-01 and 10000-01-01
abbrev pub first_day : ℕ
first_day = 693962

abbrev pub last_day : ℕ
last_day = 3652426

-- the days that there are
abbrev pub days : List (Option ℕ) → List ℕ
days xs = flat_map option_to_list xs

-- drop whatever is not above the last kept
unfoldable pub rising : ℕ → List ℕ → List ℕ
rising last [] = []
rising last (x ∷ xs) = cond (ltb last x) (x ∷ rising x xs) (rising last xs)

-- the first is kept
unfoldable pub kept : List ℕ → List ℕ
kept [] = []
kept (x ∷ xs) = x ∷ rising x xs

-- drop the ends below a start
unfoldable pub drop_below : ℕ → List ℕ → List ℕ
drop_below s [] = []
drop_below s (e ∷ es) = cond (ltb e s) (drop_below s es) (e ∷ es)

-- the first end left, or 10000-01-01
unfoldable pub first_left : List ℕ → ℕ
first_left [] = last_day
first_left (e ∷ es) = e

-- the ends left after a start: not its own if equal
unfoldable pub leave : ℕ → List ℕ → List ℕ
leave s [] = []
leave s (e ∷ es) = cond (eqb e s) es (e ∷ es)

pub record Interval : Type 0 where
  pub start : ℕ
  pub end : ℕ

unfoldable pub pairs : List ℕ → List ℕ → List Interval
pairs [] es = []
pairs (s ∷ ss) es = record { start = s; end = first_left (drop_below s es) } ∷ pairs ss (leave s (drop_below s es))

-- no starts but some ends: from 1900-01-01 to the first end
unfoldable pub ends_only : List ℕ → List Interval
ends_only [] = []
ends_only (e ∷ es) = record { start = first_day; end = e } ∷ []

unfoldable pub joined : List ℕ → List ℕ → List Interval
joined [] es = ends_only es
joined (s ∷ ss) es = pairs (s ∷ ss) es

unfoldable pub intervals : List (Option ℕ) → List (Option ℕ) → List Interval
intervals ss es = joined (kept (days ss)) (kept (days es))

-- the first interval whose end is not before the day decides, by containing it
unfoldable pub decides : ℕ → List Interval → Bool
decides n [] = false
decides n (i ∷ is) = cond (leb n i.end) (leb i.start n) (decides n is)
