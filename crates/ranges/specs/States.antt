-- What a list of ranges shows at a minute, and when the list is in order.
use Rattle.std.specs.Prelude.{Bool, cond, List, [], ◌∷◌, ℕ, ◌≤◌, ◌<◌, ltb, leb}
use Rattle.ranges.specs.Range.{Range, both}

-- nothing, or a kind and a comment
pub data Shown : Type 0 where
  dark : Shown
  shows : ℕ → ℕ → Shown

abbrev pub covers : Range → ℕ → Bool
covers r t = both (leb r.start t) (ltb t r.end)

-- the first range that covers t says what is shown there
abbrev pub state_at : List Range → ℕ → Shown
state_at [] t = dark
state_at (r ∷ l) t = cond (covers r t) (shows r.kind r.comment) (state_at l t)

-- s where it shows something, else u
abbrev pub over : Shown → Shown → Shown
over dark u = u
over (shows k c) u = shows k c

-- nothing shown is closed, comment 0
abbrev pub lit : Shown → Shown
lit dark = shows 1 0
lit (shows k c) = shows k c

-- sorted, disjoint, none empty, from lo to hi
abbrev pub InOrder : ℕ → List Range → ℕ → Type 0
InOrder lo [] hi = lo ≤ hi
InOrder lo (r ∷ l) hi = (lo ≤ r.start) × (r.start < r.end) × InOrder r.end l hi

-- every range's kind and comment are P's
abbrev pub Each : (ℕ → ℕ → Type 0) → List Range → Type 0
Each P [] = Unit {0}
Each P (r ∷ l) = P r.kind r.comment × Each P l

-- the same as tests: a range that may stand at lo or later, and a list of such that ends by 24:00
abbrev pub fits_b : ℕ → Range → Bool
fits_b lo r = both (leb lo r.start) (both (ltb r.start r.end) (leb r.kind 2))

abbrev pub order_b : ℕ → List Range → Bool
order_b lo [] = leb lo 1440
order_b lo (r ∷ l) = both (fits_b lo r) (order_b r.end l)
