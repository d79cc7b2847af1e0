-- When the two readings are of the same rules, and what it is that they agree.
use Rattle.std.specs.Prelude.{◌≡◌, true, List, [], ◌∷◌, map, ℕ, ◌+◌, ◌≤◌, ◌<◌, length}
use Rattle.ranges.specs.Range.{Range}
use Rattle.ranges.specs.States.{state_at, lit, InOrder, Each}
use Rattle.ranges.specs.Build.{Span, covered_b, ends_b}
use Rattle.reading.specs.Ruled.{Part, Ruled}
use Rattle.reading.specs.Reading.{Seen, state_of}
use Rattle.reading.specs.Ranging.{Spanned}

abbrev pub rules_of : List Spanned → List Ruled
rules_of ms = map (λ m. m.rule) ms

-- all of a list keep Q
abbrev pub Every : {A : Type 0} → (A → Type 0) → List A → Type 0
Every Q [] = Unit {0}
Every Q (a ∷ l) = Q a × Every Q l

-- the spans l cover what the part covers of the day that begins d minutes after its own, and none ends past 24:00
pub record Cut (p : Part) (d : ℕ) (l : List Span) : Type 0 where
  pub at : (t : ℕ) → t < 1440 → covered_b l t ≡ p.covers (t + d)
  pub ends : ends_b l ≡ true

-- today's spans at the same minute, last night's a day later
pub record Clipped (m : Spanned) : Type 0 where
  pub today : Cut m.rule.today 0 m.today
  pub night : Cut m.rule.night 1440 m.night

-- at most 8 spans a day
pub record Small (m : Spanned) : Type 0 where
  pub today : length m.today ≤ 8
  pub night : length m.night ≤ 8

-- the states that a rule can show are P's
pub record StatesIn (P : ℕ → ℕ → Type 0) (m : Spanned) : Type 0 where
  pub today : P m.rule.today.kind m.rule.comment
  pub night : P m.rule.night.kind m.rule.comment

-- THE RULE OF A DAY: at most 64 ranges, in order within the day, of P's states, and at every minute f's state, nothing shown being closed
pub record Tells (P : ℕ → ℕ → Type 0) {L : Type 0} (f : ℕ → Seen L) (l : List Range) : Type 0 where
  pub few : length l ≤ 64
  pub order : InOrder 0 l 1440
  pub states : Each P l
  pub at : (t : ℕ) → t < 1440 → lit (state_at l t) ≡ lit (state_of (f t))
