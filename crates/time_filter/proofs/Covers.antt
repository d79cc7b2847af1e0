-- What a span covers, its interval, and its cuts to the two days that it can touch.
-- Assumes nothing.
use mathlib.Core.Path.{◌≡◌, refl, sym, ◌∙◌}
use mathlib.Core.Bool.{Bool, true, false, cond, ◌&&◌, beq}
use mathlib.Core.List.{List, [], ◌∷◌}
use Prim.Native.Nat.{ℕ, suc, ◌+◌, ◌*◌, ◌-◌, ◌/◌, ◌%◌, ◌≤◌, ◌<◌, min}
use native.Mathlib.Omega.{arith}
use borrow.Author.Tests.{leb-true, le-ltb, le-leb}
use lib.Dec.{leb, ltb}
use lib.IntN.{ℤ}
use lib.ListN.{length, take, length-map}
use lib.Seq.{take_at, length-take-le}
use Rattle.rules.specs.declared.Rule.{Rule}
use Rattle.days.specs.declared.Day.{Day}
use Rattle.rules.specs.declared.Time.{Time}
use Rattle.rules.specs.declared.Time.TheVariants.{Fixed, Variable}
use Rattle.rules.specs.declared.TimeSpan.{TimeSpan}
use Rattle.std.proofs.Common.{Option, Some, None}
use Rattle.extended_time.specs.declared.ExtendedTime.{ExtendedTime}
use Rattle.time_filter.specs.declared.Events.{Events}
use Rattle.time_filter.specs.declared.Interval.{Interval}
use Rattle.time_filter.specs.Spans.{from_to, event_at, after, time_at, summer, start_missing, end_missing, both_missing, morning, not_after, filled_span, later_end, wrapped_end, interval_of, within, covers, covered}
use Rattle.time_filter.specs.Cuts.{in_day, cut_of, cut_all, cuts_of, word_covers, words_cover}
use Rattle.extended_time.proofs.Moments.{InTime, in-time, in-time-sum}

-- both ends lie at 48:00 or before
abbrev pub Short : Option Interval → Type 0
Short (Some i) = (i.start ≤ 2880) × (i.end ≤ 2880)
Short None = Unit {0}

in-time-after : (m : Option ExtendedTime) (z : ℤ) → InTime (after m z)
unfolding after
in-time-after (Some x) z = in-time-sum x.minutes z
in-time-after None z = tt

in-time-at : (r : Events) (t : Time) → InTime (time_at r t)
unfolding time_at
in-time-at r (Fixed n) = in-time n
in-time-at r (Variable e z) = in-time-after (event_at r e) z

short-cond : (q : Bool) (i j : Option Interval) → Short i → Short j → Short (cond q i j)
short-cond true i j h k = h
short-cond false i j h k = k

short-filled : (s : Bool) (p : TimeSpan) (m n : Option ExtendedTime) → InTime m → InTime n → Short (filled_span s p m n)
unfolding filled_span start_missing end_missing both_missing
short-filled s p (Some x) (Some y) h k = (h, k)
short-filled s p None (Some y) h k = short-cond (beq (morning p.start) s) (from_to 0 y.minutes) None (omega arith, k) tt
short-filled s p (Some x) None h k = short-cond (beq (morning p.end) s) None (from_to x.minutes 1440) tt (h, omega arith)
short-filled s p None None h k = short-cond (beq (not_after p.start p.end) s) (from_to 0 1440) None (omega arith, omega arith) tt

short-later : (s e : ℕ) → e ≤ 2880 → later_end s e ≤ 2880
unfolding later_end
short-later s e h = go (ltb s e)
  where
    go : (q : Bool) → cond q e (min (e + 1440) 2880) ≤ 2880
    go true = h
    go false = omega arith

short-wrapped : (i : Option Interval) → Short i → Short (wrapped_end i)
unfolding wrapped_end
short-wrapped (Some i) h = (h.0, short-later i.start i.end h.1)
short-wrapped None h = tt

-- for any row, day and span
pub short : (r : Events) (d : Day) (p : TimeSpan) → Short (interval_of r d p)
unfolding interval_of
short r d p = short-wrapped _ (short-filled (summer d) p _ _ (in-time-at r p.start) (in-time-at r p.end))

-- a span covers start ≤ t < end of its interval, and nothing where it has none
pub covers-from-to : (r : Events) (d : Day) (p : TimeSpan) (s e t : ℕ) → interval_of r d p ≡ from_to s e → covers r d p t ≡ (leb s t && ltb t e)
unfolding within
covers-from-to r d p s e t h = rw h

pub covers-nothing : (r : Events) (d : Day) (p : TimeSpan) (t : ℕ) → interval_of r d p ≡ None → covers r d p t ≡ false
unfolding within
covers-nothing r d p t h = rw h

within-short : (i : Option Interval) → Short i → (t : ℕ) → 2880 ≤ t → within i t ≡ false
unfolding within
within-short (Some i) h t k = go (leb i.start t)
  where
    go : (q : Bool) → (q && ltb t i.end) ≡ false
    go true = le-ltb t i.end (omega (arith, h.1))
    go false = refl
within-short None h t k = refl

-- nothing is covered from 48:00 on
pub covers-two-days : (r : Events) (d : Day) (p : TimeSpan) (t : ℕ) → 2880 ≤ t → covers r d p t ≡ false
covers-two-days r d p t h = within-short (interval_of r d p) (short r d p) t h

-- a cut's two halves
pub in-day-high : (d t : ℕ) → in_day d t ≤ 1440
unfolding in_day
in-day-high d t = omega arith

upper : (a b : ℕ) → b ≤ 1440 → (a * 65536 + b) / 65536 ≡ a
upper a b h = omega arith

lower : (a b : ℕ) → b ≤ 1440 → (a * 65536 + b) % 65536 ≡ b
lower a b h = omega arith

-- no cut ends past 24:00
pub cut_high : (d : ℕ) (i : Option Interval) → cut_of d i % 65536 ≤ 1440
unfolding cut_of
cut_high d (Some i) = omega (arith, lower (in_day d i.start) (in_day d i.end) (in-day-high d i.end), in-day-high d i.end)
cut_high d None = omega arith

same-leb : (a b c d : ℕ) → (a ≤ b → c ≤ d) → (c ≤ d → a ≤ b) → leb a b ≡ leb c d
same-leb a b c d f g = go (leb a b) refl
  where
    go : (q : Bool) → leb a b ≡ q → leb a b ≡ leb c d
    go true e = e ∙ sym (le-leb c d (f (leb-true a b e)))
    go false e = e ∙ sym (other (leb c d) refl)
      where
        other : (q : Bool) → leb c d ≡ q → leb c d ≡ false
        other true k = k ∙ sym (le-leb a b (g (leb-true c d k))) ∙ e
        other false k = k

-- within the day, t is after a cut start exactly if t + d is after the start
start-cut : (d s t : ℕ) → t < 1440 → leb (in_day d s) t ≡ leb s (t + d)
unfolding in_day
start-cut d s t h = same-leb (min (s - d) 1440) t s (t + d) (λ k. omega arith) (λ k. omega arith)

end-cut : (d e t : ℕ) → t < 1440 → ltb t (in_day d e) ≡ ltb (t + d) e
unfolding in_day
end-cut d e t h = same-leb (suc t) (min (e - d) 1440) (suc (t + d)) e (λ k. omega arith) (λ k. omega arith)

-- THE CUT: on the day that begins d minutes later, it covers what the interval covers there
pub cut-covers : (d : ℕ) (i : Option Interval) (t : ℕ) → t < 1440 → word_covers (cut_of d i) t ≡ within i (t + d)
unfolding cut_of within
cut-covers d (Some i) t h =
    rw (
      upper (in_day d i.start) (in_day d i.end) (in-day-high d i.end),
      lower (in_day d i.start) (in_day d i.end) (in-day-high d i.end),
      start-cut d i.start t h,
      end-cut d i.end t h,
    )
cut-covers d None t h = rw (le-leb 0 t (omega arith)) (le-ltb t 0 (omega arith))

-- the same for a rule's spans
pub cuts-cover : (r : Events) (y : Day) (d : ℕ) (l : List TimeSpan) (t : ℕ) → t < 1440 → words_cover (cut_all r y d l) t ≡ covered r y l (t + d)
cuts-cover r y d [] t h = refl
cuts-cover r y d (p ∷ l) t h = rw (cut-covers d (interval_of r y p) t h, cuts-cover r y d l t h)

-- the counted words of a rule's cuts
pub cuts-words : (r : Events) (y : Day) (d : ℕ) (u : Rule) → u.span_count ≤ length u.spans →
    take u.span_count (cuts_of r y d u).words ≡ cut_all r y d (take u.span_count u.spans)
unfolding cuts_of
cuts-words r y d u h =
    take_at (cut_all r y d (take u.span_count u.spans)) _ u.span_count
    (length-map (take u.span_count u.spans) (λ p. cut_of d (interval_of r y p)) ∙ length-take-le u.span_count u.spans h)
