-- The next change, over what each day tells.
use Rattle.std.specs.Prelude.{Bool, true, false, cond, Option, Some, None, ℕ, zero, suc, ◌+◌, ◌-◌, eqb, ltb}
use Rattle.ranges.specs.Range.{both}
use Rattle.ranges.specs.States.{Shown, dark, shows}

-- a day is refused by 8 at a rule, or shows a state at each minute
pub data Told : Type 0 where
  refuses : ℕ → Told
  tells : (ℕ → Shown) → Told

-- the same state: kind and comment
abbrev pub alike : Shown → Shown → Bool
alike dark dark = true
alike dark (shows k c) = false
alike (shows k c) dark = false
alike (shows k c) (shows j e) = both (eqb k j) (eqb c e)

-- what the day shows at minute t
abbrev pub shown_at : Told → ℕ → Shown
shown_at (refuses r) t = dark
shown_at (tells f) t = f t

-- the first of the n minutes from t on that does not show s, or t + n where there is none
unfoldable pub other : (ℕ → Shown) → Shown → ℕ → ℕ → ℕ
other f s t zero = t
other f s t (suc n) = cond (alike (f t) s) (other f s (t + 1) n) t

-- a minute before 24:00, else none
abbrev pub today : ℕ → Option ℕ
today m = cond (ltb m 1440) (Some m) None

-- what is found: a day that is refused, and the rule; a day, a minute and the days examined; nothing, and the days examined
pub data Found : Type 0 where
  stopped : ℕ → ℕ → Found
  changes : ℕ → ℕ → ℕ → Found
  never : ℕ → Found

-- on day d, the n-th that is examined, from minute t on: its refusal, else its first minute that does not show s, else what the days behind give
abbrev pub look_at : Told → Shown → ℕ → ℕ → ℕ → Found → Found
look_at (refuses r) s t d n rest = stopped d r
look_at (tells f) s t d n rest = cond (ltb (other f s t (1440 - t)) 1440) (changes d (other f s t (1440 - t)) n) rest

-- on k days from day d on, the first from minute t, after n days examined
abbrev pub search : (ℕ → Told) → Shown → ℕ → ℕ → ℕ → ℕ → Found
search day s t d zero n = never n
search day s t d (suc k) n = look_at (day d) s t d (n + 1) (search day s 0 (d + 1) k (n + 1))

-- THE NEXT CHANGE from minute t of day d, within k days: what is found behind the minute that does not show the minute's state
abbrev pub next_change : (ℕ → Told) → ℕ → ℕ → ℕ → Found
next_change day d t k = search day (shown_at (day d) t) (t + 1) d k 0
