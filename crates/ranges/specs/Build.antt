-- The runs of a list of spans, in one state.
use Rattle.std.specs.Prelude.{Bool, true, false, cond, List, [], ◌∷◌, map, ℕ, suc, ◌≤◌, ◌/◌, ◌%◌, leb, ltb}
use Rattle.ranges.specs.Range.{Range, both}
use Rattle.ranges.specs.Insertion.{insert_r}

pub record Span : Type 0 where
  pub start : ℕ
  pub end : ℕ

abbrev pub stated : ℕ → ℕ → Span → Range
stated k c p = record { start = p.start; end = p.end; kind = k; comment = c }

-- each span that is not empty goes in, from last to first: insertion joins what touches
abbrev pub build_r : ℕ → ℕ → List Span → List Range
build_r k c [] = []
build_r k c (p ∷ l) = cond (ltb p.start p.end) (insert_r (stated k c p) (build_r k c l)) (build_r k c l)

-- some span covers t
abbrev pub covered_b : List Span → ℕ → Bool
covered_b [] t = false
covered_b (p ∷ l) t = cond (both (leb p.start t) (ltb t p.end)) true (covered_b l t)

-- no span ends past 24:00
abbrev pub ends_b : List Span → Bool
ends_b [] = true
ends_b (p ∷ l) = both (leb p.end 1440) (ends_b l)

-- a span as a word: start in the upper half, end in the lower
abbrev pub span_of : ℕ → Span
span_of w = record { start = w / 65536; end = w % 65536 }

abbrev pub spans : List ℕ → List Span
spans l = map span_of l

-- a minute at least between a range and the next: the runs are maximal
abbrev pub Apart : ℕ → List Range → Type 0
Apart lo [] = Unit {0}
Apart lo (r ∷ l) = (lo ≤ r.start) × Apart (suc r.end) l
