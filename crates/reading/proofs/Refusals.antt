-- Refusal 8 is an addition's: a rule's own ranges are few, and every other operator keeps ranges that were judged before.
use mathlib.Core.Path.{◌≡◌, refl, sym, ap, ◌∙◌}
use mathlib.Core.Bool.{Bool, true, false, cond, false≢true, ◌&&◌}
use mathlib.Core.Option.{Option, none, some}
use mathlib.Core.List.{List, [], ◌∷◌, ◌++◌}
use Prim.Native.Nat.{ℕ, ◌+◌, ◌≤◌, ◌<◌}
use native.Mathlib.Omega.{arith}
use lib.Dec.{eqb}
use lib.ListN.{length}
use borrow.Author.Tests.{le-leb, leb-false}
use Rattle.rules.specs.declared.Operator.{Operator}
use Rattle.rules.specs.declared.Operator.TheVariants.{Normal, Additional, Fallback}
use Rattle.ranges.specs.Range.{Range}
use Rattle.ranges.specs.Insertion.{add_r}
use Rattle.ranges.specs.Closed.{shut_b}
use Rattle.ranges.proofs.Cases.{by}
use Rattle.ranges.proofs.Builds.{in-build, few-build}
use Rattle.reading.specs.Operators.{Turn, when, start, lasts, overlaid, normal, additional, turn}
use Rattle.reading.specs.Ranging.{Spanned, today_r, night_r, own_r, turn_r, few_b, over64, range_m, range_reading}
use Rattle.reading.specs.Agreement.{Every, Clipped, Small}
use Rattle.reading.proofs.Additions.{few-add}

module _ (m : Spanned) (c : Clipped m) (s : Small m) where
  few-today : length (today_r m) ≤ 8
  few-today = omega (arith, few-build m.rule.today.kind m.rule.comment m.today c.today.ends, s.today)

  few-night : length (night_r m) ≤ 8
  few-night = omega (arith, few-build m.rule.night.kind m.rule.comment m.night c.night.ends, s.night)

  -- THEOREM: last night added to today makes at most 24 ranges
  pub few-own : length (add_r (today_r m) (night_r m)) ≤ 24
  few-own = omega (
    arith,
    few-add (today_r m) 1440 (in-build m.rule.today.kind m.rule.comment m.today c.today.ends) (night_r m) 0
        (in-build m.rule.night.kind m.rule.comment m.night c.night.ends),
    few-today,
    few-night,
  )

  few-parts : (a b : Bool) → few_b (overlaid add_r (when a (today_r m)) (when b (night_r m))) ≡ true
  few-parts true true = le-leb (length (add_r (today_r m) (night_r m))) 64 (omega (arith, few-own))
  few-parts true false = le-leb (length (today_r m)) 64 (omega (arith, few-today))
  few-parts false true = le-leb (length (night_r m)) 64 (omega (arith, few-night))
  few-parts false false = refl

  -- THEOREM: so a rule's own evaluation is never refused
  pub own-fits : few_b (own_r m).eval ≡ true
  own-fits = few-parts m.rule.today.on m.rule.night.on

-- z is the addition of y to x, and too long
pub record Exceeds (x y z : Option (List Range)) : Type 0 where
  pub below : List Range
  pub above : List Range
  pub first : x ≡ some below
  pub second : y ≡ some above
  pub is : z ≡ some (add_r below above)
  pub long : 64 < length (add_r below above)

module _ (p e : Turn (List Range)) (h : few_b p.eval ≡ true) (k : few_b e.eval ≡ true) where
  fits : (z : Option (List Range)) → few_b z ≡ true → few_b z ≡ false → Exceeds p.eval e.eval z
  fits z t n = absurd (false≢true (sym n ∙ t))

  few-if : (b : Bool) (x y : Option (List Range)) → few_b x ≡ true → few_b y ≡ true → few_b (cond b x y) ≡ true
  few-if true x y i j = i
  few-if false x y i j = j

  few-kept : (b : Bool) → few_b (cond b p e).eval ≡ true
  few-kept true = h
  few-kept false = k

  by_kind : (b : Bool) → few_b (cond b (additional shut_b add_r p e) (normal shut_b add_r p e)).eval ≡ false
      → Exceeds p.eval e.eval (cond b (additional shut_b add_r p e) (normal shut_b add_r p e)).eval
  by_kind true n = over p.eval e.eval h k n
    where
      over : (x y : Option (List Range)) → few_b x ≡ true → few_b y ≡ true → few_b (overlaid add_r x y) ≡ false → Exceeds x y (overlaid add_r x y)
      over none y i j n = absurd (false≢true (sym n ∙ j))
      over (some l) none i j n = absurd (false≢true (sym n ∙ i))
      over (some l) (some d) i j n = record { below = l; above = d; first = refl; second = refl; is = refl; long = leb-false _ 64 n }
  by_kind false n =
      fits _ (few-if e.matched e.eval (cond (lasts shut_b p.eval) p.eval e.eval) k (few-if (lasts shut_b p.eval) p.eval e.eval h k)) n

  turn-exceeds : (o : Operator) (kind : ℕ) → few_b (turn shut_b add_r o kind p e).eval ≡ false → Exceeds p.eval e.eval (turn shut_b add_r o kind p e).eval
  turn-exceeds Normal kind n = by_kind (eqb kind 1) n
  turn-exceeds Additional kind n = by_kind true n
  turn-exceeds Fallback kind n = fits _ (few-kept (p.matched && lasts shut_b p.eval)) n

-- THEOREM: a rule is refused only for the addition of its evaluation to the previous one, where that has more than 64 ranges
pub only-additions : (m : Spanned) (p : Turn (List Range)) → Clipped m → Small m → few_b p.eval ≡ true → few_b (turn_r m p).eval ≡ false
    → Exceeds p.eval (own_r m).eval (turn_r m p).eval
only-additions m p c s h n = turn-exceeds p (own_r m) h (own-fits m c s) m.rule.operator m.rule.kind n

-- the turns of all rules of a list, unjudged
abbrev pub turns_r : List Spanned → Turn (List Range) → Turn (List Range)
turns_r [] p = p
turns_r (m ∷ ms) p = turns_r ms (turn_r m p)

-- a rule of the list ms, whose first has number n, has number k, and its evaluation is too long when added to that of the rules before it
pub record RefusedAt (n : ℕ) (ms : List Spanned) (p : Turn (List Range)) (k : ℕ) : Type 0 where
  pub front : List Spanned
  pub rule : Spanned
  pub back : List Spanned
  pub list : front ++ (rule ∷ back) ≡ ms
  pub number : n + length front ≡ k
  pub exceeds : Exceeds (turns_r front p).eval (own_r rule).eval (turn_r rule (turns_r front p)).eval

refused-from : (n : ℕ) (ms : List Spanned) (p : Turn (List Range)) (k : ℕ) → Every Clipped ms → Every Small ms → few_b p.eval ≡ true
    → range_m n ms p ≡ over64 k → RefusedAt n ms p k
refused-from n [] p k c s h z = let q : ◌≡◌ {A = ℕ} 0 1 = cc in absurd (omega arith)
refused-from n (m ∷ ms) p k c s h z =
    by (few_b (turn_r m p).eval)
    (λ e. let ih = refused-from (n + 1) ms (turn_r m p) k c.1 s.1 e (rw e at z) in record {
      front = m ∷ ih.front;
      rule = ih.rule;
      back = ih.back;
      list = ap (λ (l : List Spanned). m ∷ l) ih.list;
      number = omega (arith, ih.number);
      exceeds = ih.exceeds;
    })
    (λ e. let y : over64 n ≡ over64 k = rw e at z in record {
      front = [];
      rule = m;
      back = ms;
      list = refl;
      number = let q : n ≡ k = cc in omega arith;
      exceeds = only-additions m p c.0 s.0 h e;
    })

-- THEOREM: 8 names the rule whose addition is too long
pub refused-at : (ms : List Spanned) (k : ℕ) → Every Clipped ms → Every Small ms → range_reading ms ≡ over64 k → RefusedAt 0 ms start k
refused-at ms k c s z = refused-from 0 ms start k c s refl z
