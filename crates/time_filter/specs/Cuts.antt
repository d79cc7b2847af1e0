-- A rule's spans, cut to one day.
use Rattle.std.specs.Prelude.{List, [], ◌∷◌, ◌++◌, map, Bool, false, ◌&&◌, ◌||◌, ℕ, ◌+◌, ◌*◌, ◌-◌, ◌/◌, ◌%◌, min, leb, ltb, take, replicate, Option, Some, None}
use Rattle.days.specs.declared.Day.{Day}
use Rattle.rules.specs.declared.Rule.{Rule}
use Rattle.rules.specs.declared.TimeSpan.{TimeSpan}
use Rattle.time_filter.specs.declared.Events.{Events}
use Rattle.time_filter.specs.declared.Cuts.{Cuts}
use Rattle.time_filter.specs.declared.Interval.{Interval}
use Rattle.time_filter.specs.Spans.{interval_of}

-- minute t, seen from the day that begins d minutes later, and held to that day
unfoldable pub in_day : ℕ → ℕ → ℕ
in_day d t = min (t - d) 1440

-- what an interval leaves of that day, 0 for its own and 1440 for the next, as a word: start in the upper half, end in the lower.
-- Nothing is left where start ≥ end.
unfoldable pub cut_of : ℕ → Option Interval → ℕ
cut_of d (Some i) = in_day d i.start * 65536 + in_day d i.end
cut_of d None = 0

abbrev pub cut_all : Events → Day → ℕ → List TimeSpan → List ℕ
cut_all r y d l = map (λ p. cut_of d (interval_of r y p)) l

-- the counted spans of a rule, and zeros behind them
unfoldable pub cuts_of : Events → Day → ℕ → Rule → Cuts
cuts_of r y d u =
    record { count = u.span_count; words = cut_all r y d (take u.span_count u.spans) ++ replicate (8 - u.span_count) 0 }

-- a word covers t, and some word of a list does
abbrev pub word_covers : ℕ → ℕ → Bool
word_covers w t = leb (w / 65536) t && ltb t (w % 65536)

abbrev pub words_cover : List ℕ → ℕ → Bool
words_cover [] t = false
words_cover (w ∷ l) t = word_covers w t || words_cover l t
