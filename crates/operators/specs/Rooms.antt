-- An evaluation and a turn held in a room of words.
use Rattle.std.specs.Prelude.{◌≡◌, List, ℕ, ◌+◌, ◌*◌, ◌≤◌, Option, Some, None, length, take}
use Rattle.std.proofs.Math.Option as there
use Rattle.ranges.specs.Range.{Range}
use Rattle.ranges.specs.States.{InOrder}
use Rattle.ranges.specs.Words.{ranges}
use Rattle.reading.specs.Operators.{Turn}
use Rattle.operators.specs.declared.Held.{Held}

-- how many ranges an evaluation has
abbrev pub count : Option ℕ → ℕ
count None = 0
count (Some n) = n

-- the evaluation that the room xs holds: its first n words, where there is one
abbrev pub eval_in : Option ℕ → List ℕ → there.Option (List Range)
eval_in None xs = there.none
eval_in (Some n) xs = there.some (ranges (take n xs))

-- the match and the evaluation that h and the room xs hold
abbrev pub turn_of : Held → List ℕ → Turn (List Range)
turn_of h xs = record { matched = h.matched; eval = eval_in h.evaluation xs }

-- what a turn asks of an evaluation: at most hi ranges, all in the room, in order within the day
pub record Ready (e : Option ℕ) (xs : List ℕ) (hi : ℕ) : Type 0 where
  pub few : count e ≤ hi
  pub long : count e ≤ length xs
  pub order : InOrder 0 (ranges (take (count e) xs)) 1440

-- e and the room xs hold the evaluation v, and are ready for more
pub record Shows (v : there.Option (List Range)) (xs : List ℕ) (hi : ℕ) (e : Option ℕ) : Type 0 where
  pub is : eval_in e xs ≡ v
  pub ready : Ready e xs hi

-- h and the room xs hold the turn p, and are ready for the next
pub record Holds (p : Turn (List Range)) (xs : List ℕ) (hi : ℕ) (h : Held) : Type 0 where
  pub is : turn_of h xs ≡ p
  pub ready : Ready h.evaluation xs hi

-- e in ys may be laid over p in xs: each of its ranges may make two more
pub record Overlaying (p : Option ℕ) (xs : List ℕ) (e : Option ℕ) (ys : List ℕ) : Type 0 where
  pub below : Ready p xs (length xs)
  pub above : Ready e ys (length ys)
  pub room : count p + 2 * count e ≤ length xs

-- the turn of a rule, with at most 24 ranges of its own in ys, after at most 64 in xs: each of the 24 may make two more
pub record Turning (p : Held) (xs : List ℕ) (e : Held) (ys : List ℕ) : Type 0 where
  pub before : Ready p.evaluation xs 64
  pub own : Ready e.evaluation ys 24
  pub room : 112 ≤ length xs
