-- A state held as a word's, and what words show at a minute.
use Rattle.std.specs.Prelude.{List, ℕ}
use Rattle.ranges.specs.Words.{range_of, ranges}
use Rattle.ranges.specs.States.{Shown, shows, state_at, lit, InOrder}

-- the state of a word
abbrev pub state_in : ℕ → Shown
state_in w = shows (range_of w).kind (range_of w).comment

-- what words show at minute t, holes being closed
abbrev pub shown_in : List ℕ → ℕ → Shown
shown_in xs t = lit (state_at (ranges xs) t)

-- words in order within the day
abbrev pub Ordered : List ℕ → Type 0
Ordered xs = InOrder 0 (ranges xs) 1440
