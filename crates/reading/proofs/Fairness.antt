-- Minutes and ranges that agree: a build agrees with the part it was made of, an addition with an overlay, and so a rule's turn in ranges with its turn in minutes.
use mathlib.Core.Path.{◌≡◌, refl, sym, ap, ◌∙◌}
use mathlib.Core.Bool.{Bool, true, false, cond, ◌&&◌, ◌||◌}
use mathlib.Core.List.{List}
use Prim.Native.Nat.{ℕ, ◌+◌, ◌<◌}
use native.Mathlib.Omega.{arith}
use Rattle.ranges.specs.Range.{Range}
use Rattle.ranges.specs.States.{state_at, InOrder, Each}
use Rattle.ranges.specs.Insertion.{add_r}
use Rattle.ranges.specs.Build.{Span, build_r, covered_b, ends_b}
use Rattle.ranges.specs.Closed.{shut_b}
use Rattle.ranges.proofs.Points.{add_at}
use Rattle.ranges.proofs.Orders.{in-add, in-full}
use Rattle.ranges.proofs.States.{each-add, each-build}
use Rattle.ranges.proofs.Builds.{build-at, in-build}
use Rattle.ranges.proofs.Runs.{Joined, joined-build}
use Rattle.reading.specs.Operators.{Turn, when, overlaid, turn}
use Rattle.reading.specs.Reading.{Seen, nothing, seen, state_of, above, shut_m, lay_m, own_m}
use Rattle.reading.specs.Ranging.{Spanned, today_r, night_r, own_r, turn_r}
use Rattle.reading.specs.Agreement.{Clipped, StatesIn}
use Rattle.reading.proofs.Likeness.{LikeO, LikeT, like-turn}
use Rattle.reading.proofs.Minutes.{above-state, above-nothing, state-if}
use Rattle.reading.proofs.Shut.{shut-same}
use Rattle.reading.proofs.Additions.{joined-add}

-- the ranges are in order within the day, are maximal runs, are of P's states, and show what f shows
pub record Fair (P : ℕ → ℕ → Type 0) {L : Type 0} (f : ℕ → Seen L) (l : List Range) : Type 0 where
  pub order : InOrder 0 l 1440
  pub joined : Joined l
  pub states : Each P l
  pub at : (t : ℕ) → t < 1440 → state_at l t ≡ state_of (f t)

module _ (P : ℕ → ℕ → Type 0) {L : Type 0} where
  fair-build : (x : L) (k c : ℕ) (g : ℕ → Bool) (l : List Span) → ((t : ℕ) → t < 1440 → covered_b l t ≡ g t) → ends_b l ≡ true → P k c
      → Fair P (λ t. cond (g t) (seen k c x) nothing) (build_r k c l)
  fair-build x k c g l a u s = record {
    order = in-build k c l u;
    joined = joined-build k c l u;
    states = each-build P k c l s;
    at = λ t h. build-at k c l t ∙ rw (a t h) (sym (state-if (g t) k c x));
  }

  fair-add : (f g : ℕ → Seen L) (l k : List Range) → Fair P f l → Fair P g k → Fair P (lay_m f g) (add_r l k)
  fair-add f g l k a b = record {
    order = in-add l k 0 0 1440 a.order b.order (omega arith);
    joined = joined-add l 1440 a.order k 0 b.order a.joined;
    states = each-add P l k a.states b.states;
    at = λ t h. add_at l k t (in-full 0 1440 k b.order) ∙ rw (a.at t h, b.at t h) (sym (above-state (g t) (f t)));
  }

  -- the four cases of a rule that matches today or not, and yesterday or not
  fair-both : (a b : Bool) (u v : ℕ → Bool) (x y : Seen L) (l k : List Range) → Fair P (λ t. cond (u t) x nothing) l → Fair P (λ t. cond (v t) y nothing) k
      → LikeO (Fair P) (when (a || b) (λ t. above (cond (b && v t) y nothing) (cond (a && u t) x nothing))) (overlaid add_r (when a l) (when b k))
  fair-both true true u v x y l k h j = fair-add (λ t. cond (u t) x nothing) (λ t. cond (v t) y nothing) l k h j
  fair-both true false u v x y l k h j = h
  fair-both false true u v x y l k h j = record {
    order = j.order;
    joined = j.joined;
    states = j.states;
    at = λ t i. j.at t i ∙ ap state_of (sym (above-nothing (cond (v t) y nothing)));
  }
  fair-both false false u v x y l k h j = tt

  module _ (lab : ℕ → Bool → L) (n : ℕ) (m : Spanned) (c : Clipped m) (s : StatesIn P m) where
    fair-today : Fair P (λ t. cond (m.rule.today.covers t) (seen m.rule.today.kind m.rule.comment (lab n false)) nothing) (today_r m)
    fair-today =
        fair-build (lab n false) m.rule.today.kind m.rule.comment m.rule.today.covers m.today
        (λ t h. let z : t + 0 ≡ t = omega arith in c.today.at t h ∙ ap m.rule.today.covers z)
        c.today.ends s.today

    fair-night : Fair P (λ t. cond (m.rule.night.covers (t + 1440)) (seen m.rule.night.kind m.rule.comment (lab n true)) nothing) (night_r m)
    fair-night =
        fair-build (lab n true) m.rule.night.kind m.rule.comment (λ t. m.rule.night.covers (t + 1440)) m.night
        c.night.at c.night.ends s.night

    fair-own : LikeT (Fair P) (own_m lab n m.rule) (own_r m)
    fair-own = record {
      matched = refl;
      eval = fair-both m.rule.today.on m.rule.night.on m.rule.today.covers (λ t. m.rule.night.covers (t + 1440))
          (seen m.rule.today.kind m.rule.comment (lab n false)) (seen m.rule.night.kind m.rule.comment (lab n true))
          (today_r m) (night_r m) fair-today fair-night;
    }

    -- a rule's turn keeps the agreement
    pub fair-turn : (p : Turn (ℕ → Seen L)) (q : Turn (List Range)) → LikeT (Fair P) p q
        → LikeT (Fair P) (turn shut_m lay_m m.rule.operator m.rule.kind p (own_m lab n m.rule)) (turn_r m q)
    fair-turn p q y =
        like-turn (Fair P) shut_m lay_m shut_b add_r (λ f l h. shut-same f l h.order h.at) (λ f g l k. fair-add f g l k)
        p (own_m lab n m.rule) q (own_r m) y fair-own m.rule.operator m.rule.kind
