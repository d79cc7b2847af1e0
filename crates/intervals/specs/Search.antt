-- What the code computes, as definitions over the lists.
use Rattle.std.specs.Prelude.{ℕ, Bool, false, ◌&&◌, List, [], ◌∷◌, Option, Some, None, leb}
use Rattle.std.specs.List.{find}
use Rattle.std.specs.Option.{unwrap_or}
use Rattle.intervals.specs.Intervals.{first_day, last_day}

-- the end that goes with a start: the first that is not below it, or 10000-01-01
unfoldable pub end_for : ℕ → List ℕ → ℕ
end_for s es = unwrap_or (find (λ e. leb s e) es) last_day

-- what the start that decides says of a day
unfoldable pub chosen : ℕ → Option ℕ → Bool
chosen n None = false
chosen n (Some s) = leb s n

-- no starts: from 1900-01-01 to the first end
unfoldable pub unstarted : ℕ → List ℕ → Bool
unstarted n [] = false
unstarted n (e ∷ es) = leb first_day n && leb n e

-- the first start whose end is not before the day decides
unfoldable pub searched : ℕ → List ℕ → List ℕ → Bool
searched n [] es = unstarted n es
searched n (s ∷ ss) es = chosen n (find (λ t. leb n (end_for t es)) (s ∷ ss))
