-- A rule's cut spans agree with what it covers, are few, and are of kinds 0 to 2: so the two readings agree on such rules.
use mathlib.Core.Path.{◌≡◌, refl, ap, ◌∙◌}
use mathlib.Core.Bool.{Bool, true, false, cond, ◌&&◌, ◌||◌}
use mathlib.Core.List.{List, [], ◌∷◌, map}
use Prim.Native.Nat.{ℕ, ◌-◌, ◌/◌, ◌%◌, ◌≤◌}
use native.Mathlib.Omega.{arith}
use lib.Dec.{leb, ltb}
use lib.ListN.{length, length-map, length-take}
use borrow.Author.Tests.{le-leb}
use Rattle.days.specs.declared.Day.{Day}
use Rattle.days.specs.DayOf.{day_of}
use Rattle.rules.specs.declared.Rule.{Rule}
use Rattle.rules.specs.declared.TimeSpan.{TimeSpan}
use Rattle.rule_image.specs.Limits.{RuleOk}
use Rattle.ranges.specs.Range.{both}
use Rattle.ranges.specs.Build.{span_of, spans, covered_b, ends_b}
use Rattle.schedule.proofs.Meaning.{State}
use Rattle.time_filter.specs.declared.Events.{Events}
use Rattle.time_filter.specs.Spans.{interval_of}
use Rattle.time_filter.specs.Cuts.{cut_of, cut_all, words_cover}
use Rattle.time_filter.proofs.Covers.{cut_high, cuts-cover}
use Rattle.date_filter.specs.Filter.{Holidays, rule_unknown}
use Rattle.reading.specs.Agreement.{rules_of, Every, Cut, Clipped, Small, StatesIn}
use Rattle.rule_day.specs.Parts.{spans_of, part_of, ruled_on, spanned_on}

-- the two ways to write a test of a span
same_test : (p q b : Bool) → cond (both p q) true b ≡ ((p && q) || b)
same_test true true b = refl
same_test true false b = refl
same_test false q b = refl

-- words cover a minute as their spans do
spans-cover : (l : List ℕ) (t : ℕ) → covered_b (spans l) t ≡ words_cover l t
spans-cover [] t = refl
spans-cover (w ∷ l) t = same_test (leb (w / 65536) t) (ltb t (w % 65536)) (covered_b (spans l) t) ∙ rw (spans-cover l t)

-- no cut ends past 24:00, whatever the span
pub cuts-end : (e : Events) (d : Day) (shift : ℕ) (l : List TimeSpan) → ends_b (spans (cut_all e d shift l)) ≡ true
cuts-end e d shift [] = refl
cuts-end e d shift (p ∷ l) = rw (le-leb (cut_of shift (interval_of e d p) % 65536) 1440 (cut_high shift (interval_of e d p))) (cuts-end e d shift l)

-- unknown or the rule's own
pub by_kind : (P : ℕ → Type 0) (k : ℕ) → P 2 → P k → (b : Bool) → P (cond b 2 k)
by_kind P k u o true = u
by_kind P k u o false = o

-- no more cuts than spans counted
few-cuts : (e : Events) (d : Day) (shift : ℕ) (r : Rule) → length (spans (cut_all e d shift (spans_of r))) ≤ r.span_count
few-cuts e d shift r =
    omega (
      arith,
      length-map (cut_all e d shift (spans_of r)) span_of,
      length-map (spans_of r) (λ p. cut_of shift (interval_of e d p)),
      length-take r.span_count r.spans,
    )

module _ (h : Holidays) (e : Events) (n : ℕ) where
  cut-part : (r : Rule) (d : Day) (shift : ℕ) → Cut (part_of h e r d) shift (spans (cut_all e d shift (spans_of r)))
  cut-part r d shift = record {
    at = λ t i. spans-cover (cut_all e d shift (spans_of r)) t ∙ cuts-cover e d shift (spans_of r) t i;
    ends = cuts-end e d shift (spans_of r);
  }

  -- THEOREM: the cut spans cover, of today and of last night, what the rule covers; each cut keeps the minutes of its day
  pub clipped : (r : Rule) → Clipped (spanned_on h e n r)
  clipped r = record { today = cut-part r (day_of n) 0; night = cut-part r (day_of (n - 1)) 1440 }

  -- THEOREM: at most 8 on each day, since a rule has at most 8 spans
  pub small : (r : Rule) → r.span_count ≤ 8 → Small (spanned_on h e n r)
  small r k = record { today = omega (arith, few-cuts e (day_of n) 0 r); night = omega (arith, few-cuts e (day_of (n - 1)) 1440 r) }

  -- THEOREM: a rule shows its own kind or unknown, with its comment
  pub states : (P : ℕ → ℕ → Type 0) (r : Rule) → P 2 r.comment → P r.kind r.comment → StatesIn P (spanned_on h e n r)
  states P r u o = record {
    today = by_kind (λ k. P k r.comment) r.kind u o (rule_unknown h r (day_of n));
    night = by_kind (λ k. P k r.comment) r.kind u o (rule_unknown h r (day_of (n - 1)));
  }

  -- so its kinds are 0 to 2
  pub kinds : (r : Rule) → RuleOk r → StatesIn State (spanned_on h e n r)
  kinds r k = states State r (omega arith, omega (arith, k.comment)) (k.kind, omega (arith, k.comment))

  -- the same of a list of rules
  pub all-clipped : (rs : List Rule) → Every Clipped (map (spanned_on h e n) rs)
  all-clipped [] = tt
  all-clipped (r ∷ rs) = (clipped r, all-clipped rs)

  pub all_small : (rs : List Rule) → Every RuleOk rs → Every Small (map (spanned_on h e n) rs)
  all_small [] k = tt
  all_small (r ∷ rs) k = (small r k.0.span_count, all_small rs k.1)

  pub all_kinds : (rs : List Rule) → Every RuleOk rs → Every (StatesIn State) (map (spanned_on h e n) rs)
  all_kinds [] k = tt
  all_kinds (r ∷ rs) k = (kinds r k.0, all_kinds rs k.1)

  -- the rules of the cut list are the rules as the minute reading sees them
  pub rules-of : (rs : List Rule) → rules_of (map (spanned_on h e n) rs) ≡ map (ruled_on h e n) rs
  rules-of [] = refl
  rules-of (r ∷ rs) = ap (λ l. ruled_on h e n r ∷ l) (rules-of rs)
