-- The listing of a day: every minute has an entry, and neighbours differ.
use Rattle.std.specs.Prelude.{◌≡◌, false, cond, List, [], ◌∷◌, ℕ, ◌+◌, ◌*◌, ◌<◌}
use Rattle.ranges.specs.Range.{Range, same, hull}
use Rattle.ranges.specs.States.{Shown, dark, shows, state_at, lit}
use Rattle.ranges.specs.Insertion.{ahead}

-- closed, comment 0
abbrev pub closed : ℕ → ℕ → Range
closed a b = record { start = a; end = b; kind = 1; comment = 0 }

-- the ranges l from minute lo on, with a closed range in each hole up to 24:00
abbrev pub holes_l : ℕ → List Range → List Range
holes_l lo [] = ahead (closed lo 1440) []
holes_l lo (r ∷ l) = ahead (closed lo r.start) (r ∷ holes_l r.end l)

-- c, then l, with neighbours of the same state made one
abbrev pub merge_l : Range → List Range → List Range
merge_l c [] = c ∷ []
merge_l c (r ∷ l) = cond (same c r) (merge_l (hull c r) l) (c ∷ merge_l r l)

abbrev pub merged_l : List Range → List Range
merged_l [] = []
merged_l (c ∷ l) = merge_l c l

abbrev pub listing : List Range → List Range
listing l = merged_l (holes_l 0 l)

-- l covers lo to hi without a hole
abbrev pub Tiles : ℕ → List Range → ℕ → Type 0
Tiles lo [] hi = lo ≡ hi
Tiles lo (r ∷ l) hi = (r.start ≡ lo) × (r.start < r.end) × Tiles r.end l hi

-- the next entry's state is another
abbrev pub Unlike : Range → List Range → Type 0
Unlike r [] = Unit {0}
Unlike r (s ∷ l) = same r s ≡ false

abbrev pub Differ : List Range → Type 0
Differ [] = Unit {0}
Differ (r ∷ l) = Unlike r l × Differ l

-- THE RULE: the entries e tile the day, neighbours differ, and every minute shows the state of l with holes closed
pub record Lists (l e : List Range) : Type 0 where
  pub tiles : Tiles 0 e 1440
  pub differ : Differ e
  pub shows_all : (t : ℕ) → t < 1440 → state_at e t ≡ lit (state_at l t)

-- a state as the low ten bits of a word
abbrev pub state_word : Shown → ℕ
state_word dark = 256
state_word (shows k c) = k * 256 + c
