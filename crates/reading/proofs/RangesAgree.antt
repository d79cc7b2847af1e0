-- The range reading shows at every minute what the minute reading shows: rule by rule, each turn keeps the agreement.
use mathlib.Core.Path.{◌≡◌, refl, subst, ap, ◌∙◌}
use mathlib.Core.Bool.{Bool, true}
use mathlib.Core.Option.{Option, none, some}
use mathlib.Core.List.{List, [], ◌∷◌}
use Prim.Native.Nat.{ℕ, ◌+◌, ◌≤◌, ◌<◌}
use native.Mathlib.Omega.{arith}
use lib.ListN.{length}
use borrow.Author.Tests.{leb-true}
use Rattle.ranges.specs.Range.{Range}
use Rattle.ranges.specs.States.{state_at, lit, order_b}
use Rattle.ranges.proofs.Cases.{by}
use Rattle.ranges.proofs.Validity.{Kind, in_order}
use Rattle.ranges.proofs.Closing.{in-drop, each-drop, few-drop, drop_at}
use Rattle.reading.specs.Operators.{Turn, start, turn}
use Rattle.reading.specs.Reading.{Seen, state_of, shut_m, lay_m, shown_by, own_m, read_m, reading, no_label, day_at}
use Rattle.reading.specs.Ranging.{Spanned, turn_r, few_b, Ranged, over64, gives, range_m, range_reading, ranges_of, day_r}
use Rattle.reading.specs.Agreement.{rules_of, Every, Clipped, StatesIn, Tells}
use Rattle.reading.proofs.Likeness.{LikeO, LikeT, like-start}
use Rattle.reading.proofs.Fairness.{Fair, fair-turn}

module _ (P : ℕ → ℕ → Type 0) {L : Type 0} (lab : ℕ → Bool → L) where
  -- what is given agrees and has at most 64 ranges
  abbrev FairR : Option (ℕ → Seen L) → Ranged → Type 0
  FairR x (over64 n) = Unit {0}
  FairR x (gives y) = LikeO (Fair P) x y × (few_b y ≡ true)

  fair-fold : (n k : ℕ) (ms : List Spanned) (s : Turn (ℕ → Seen L)) (t : Turn (List Range)) → Every Clipped ms → Every (StatesIn P) ms
      → LikeT (Fair P) s t → few_b t.eval ≡ true → FairR (read_m lab n (rules_of ms) s).eval (range_m k ms t)
  fair-fold n k [] s t c w y h = (y.eval, h)
  fair-fold n k (m ∷ ms) s t c w y h =
      by (few_b (turn_r m t).eval)
      (λ e. rw e (fair-fold (n + 1) _ ms (turn shut_m lay_m m.rule.operator m.rule.kind s (own_m lab n m.rule)) (turn_r m t) c.1 w.1
      (fair-turn P lab n m c.0 w.0 s t y) e))
      (λ e. rw e tt)

  fair-ranges : (x : Option (ℕ → Seen L)) (y : Option (List Range)) → LikeO (Fair P) x y → Fair P (λ t. shown_by x t) (ranges_of y)
  fair-ranges none none h = record { order = omega arith; joined = tt; states = tt; at = λ t i. refl }
  fair-ranges none (some l) h = absurd h
  fair-ranges (some f) none h = absurd h
  fair-ranges (some f) (some l) h = h

  few-ranges : (y : Option (List Range)) → few_b y ≡ true → length (ranges_of y) ≤ 64
  few-ranges none h = omega arith
  few-ranges (some l) h = leb-true (length l) 64 h

  module _ (ms : List Spanned) (c : Every Clipped ms) (k : Every (StatesIn P) ms) (e : Option (List Range)) (z : range_reading ms ≡ gives e) where
    folded : FairR (read_m lab 0 (rules_of ms) start).eval (gives e)
    folded = subst (λ (r : Ranged). FairR (read_m lab 0 (rules_of ms) start).eval r) z (fair-fold 0 0 ms start start c k (like-start (Fair P)) refl)

    -- THEOREM: the ranges stored at the end agree with the minute reading
    pub fair-end : Fair P (reading lab (rules_of ms)) (ranges_of e)
    fair-end = fair-ranges (read_m lab 0 (rules_of ms) start).eval e folded.0

    -- THEOREM: not refused, the range reading shows at every minute what the minute reading shows
    pub agree : (t : ℕ) → t < 1440 → state_at (ranges_of e) t ≡ state_of (reading lab (rules_of ms) t)
    agree = fair-end.at

    -- THEOREM: and so does the day's list, closed ranges without comment dropped; it is in order, of the rules' states, and at most 64 long
    pub tells : Tells P (reading lab (rules_of ms)) (day_r e)
    tells = record {
      few = omega (arith, few-drop (ranges_of e), few-ranges e folded.1);
      order = in-drop 0 1440 (ranges_of e) fair-end.order;
      states = each-drop P (ranges_of e) fair-end.states;
      at = λ t h. drop_at 0 1440 (ranges_of e) t fair-end.order ∙ ap lit (agree t h);
    }

module _ (ms : List Spanned) (c : Every Clipped ms) (k : Every (StatesIn Kind) ms) (e : Option (List Range)) (z : range_reading ms ≡ gives e) where
  -- THEOREM: the day's list is valid where the rules' kinds are 0 to 2
  pub day-valid : order_b 0 (day_r e) ≡ true
  day-valid = let w = tells Kind no_label ms c k e z in in_order 0 (day_r e) w.order w.states

  -- THEOREM: at every minute it shows the day's state
  pub day-at : (t : ℕ) → t < 1440 → lit (state_at (day_r e) t) ≡ day_at (rules_of ms) t
  day-at = (tells Kind no_label ms c k e z).at
