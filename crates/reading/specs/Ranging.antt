-- The range reading: the same in ranges, and the only one that is refused.
use Rattle.std.specs.Prelude.{Bool, true, cond, List, [], ◌∷◌, ℕ, ◌+◌, leb, length}
use Rattle.std.proofs.Math.Option.{Option, none, some}
use Rattle.ranges.specs.Range.{Range}
use Rattle.ranges.specs.Insertion.{add_r}
use Rattle.ranges.specs.Build.{Span, build_r}
use Rattle.ranges.specs.Closed.{shut_b, drop_r}
use Rattle.reading.specs.Ruled.{Ruled}
use Rattle.reading.specs.Operators.{Turn, start, when, overlaid, turn}

-- a rule with its spans clipped to the day: today's, and last night's
pub record Spanned : Type 0 where
  pub rule : Ruled
  pub today : List Span
  pub night : List Span

-- what the rule shows of each day, in ranges
abbrev pub today_r : Spanned → List Range
today_r m = build_r m.rule.today.kind m.rule.comment m.today

abbrev pub night_r : Spanned → List Range
night_r m = build_r m.rule.night.kind m.rule.comment m.night

-- a rule's turn: today's clipped spans built, then last night's build added
abbrev pub own_r : Spanned → Turn (List Range)
own_r m = record {
  matched = m.rule.today.on;
  eval = overlaid add_r (when m.rule.today.on (today_r m)) (when m.rule.night.on (night_r m));
}

-- the rule's turn after p: an overlay is an addition
abbrev pub turn_r : Spanned → Turn (List Range) → Turn (List Range)
turn_r m p = turn shut_b add_r m.rule.operator m.rule.kind p (own_r m)

-- at most 64 ranges
abbrev pub few_b : Option (List Range) → Bool
few_b none = true
few_b (some l) = leb (length l) 64

-- refused by 8 at a rule, or the evaluation that the rules gave
pub data Ranged : Type 0 where
  over64 : ℕ → Ranged
  gives : Option (List Range) → Ranged

-- the rules from number n on, after p: each finished result is judged
abbrev pub range_m : ℕ → List Spanned → Turn (List Range) → Ranged
range_m n [] p = gives p.eval
range_m n (m ∷ ms) p = cond (few_b (turn_r m p).eval) (range_m (n + 1) ms (turn_r m p)) (over64 n)

-- THE RANGE READING
abbrev pub range_reading : List Spanned → Ranged
range_reading ms = range_m 0 ms start

-- the ranges of an evaluation, and those of the day: closed ones without comment are dropped
abbrev pub ranges_of : Option (List Range) → List Range
ranges_of none = []
ranges_of (some l) = l

abbrev pub day_r : Option (List Range) → List Range
day_r e = drop_r (ranges_of e)
