-- Every answer of the search means what it says, and no other does.
use mathlib.Core.Path.{◌≡◌, refl}
use mathlib.Core.Bool.{true, false}
use Prim.Native.Nat.{ℕ, zero, suc, ◌+◌, ◌-◌, ◌≤◌, ◌<◌}
use native.Mathlib.Omega.{arith}
use lib.Dec.{ltb}
use borrow.Author.Tests.{ltb-true, ltb-false}
use Rattle.ranges.specs.States.{Shown}
use Rattle.ranges.proofs.Cases.{split, by}
use Rattle.changes.specs.Search.{Told, refuses, tells, Found, stopped, changes, never, alike, shown_at, other, look_at, search, next_change}
use Rattle.changes.specs.Meaning.{moment, Whole, Calm, AllWhole, Means, NextMeans}

-- x is the first of the k minutes from t on that doesn't show s, or their end
record Firsts (f : ℕ → Shown) (s : Shown) (t k x : ℕ) : Type 0 where
  from : t ≤ x
  upto : x ≤ t + k
  calm : (m : ℕ) → t ≤ m → m < x → alike (f m) s ≡ true
  stops : x < t + k → alike (f x) s ≡ false

-- by induction: a minute that shows s is passed, any other is the first
firsts : (f : ℕ → Shown) (s : Shown) (k t : ℕ) → Firsts f s t k (other f s t k)
unfolding other
firsts f s zero t = record { from = omega arith; upto = omega arith; calm = λ m x y. absurd (omega arith); stops = λ x. absurd (omega arith) }
firsts f s (suc k) t =
    by (alike (f t) s)
    (λ e. let w = firsts f s k (t + 1) in let a = w.from in let b = w.upto in rw e (record {
      from = omega arith;
      upto = omega arith;
      calm = λ m x y. split t m (λ z. w.calm m (omega arith) y) (λ z. let q : m ≡ t = omega arith in rw q e);
      stops = λ x. w.stops (omega arith);
    }))
    (λ e. rw e (record { from = omega arith; upto = omega arith; calm = λ m x y. absurd (omega arith); stops = λ x. e }))

module _ (day : ℕ → Told) (s : Shown) where
  -- what holds from minute t of a day, and from the next day on, holds from that minute on
  calm_more : (t d y : ℕ) → ((u : ℕ) → t ≤ u → u < 1440 → alike (shown_at (day d) u) s ≡ true) → Calm day s (moment (d + 1) 0) y → Calm day s (moment d t) y
  calm_more t d y a c i u h p q =
      split d i
      (λ j. c i u h (omega arith) q)
      (λ j. let e : i ≡ d = omega arith in rw e (a u (omega arith) h))

  -- the day in front is whole, and so are those behind it
  whole-more : (d e : ℕ) → Whole (day d) → AllWhole day s (d + 1) e → AllWhole day s d e
  whole-more d e w c i p q = split d i (λ j. c i (omega arith) q) (λ j. let e : i ≡ d = omega arith in rw e w)

  -- a whole day more in front, that shows s from minute t on
  more : (t d k n : ℕ) (x : Found) → t ≤ 1440 → ((u : ℕ) → t ≤ u → u < 1440 → alike (shown_at (day d) u) s ≡ true) → Whole (day d)
      → Means day s 0 (d + 1) k (n + 1) x → Means day s t d (suc k) n x
  more t d k n (stopped e r) h a w m = record {
    first = omega (arith, m.first);
    within = omega (arith, m.within);
    refused = m.refused;
    calm = calm_more t d (moment e 0) a m.calm;
    whole = whole-more d e w m.whole;
  }
  more t d k n (changes e u c) h a w m = record {
    within = omega (arith, m.within);
    minute = m.minute;
    from = omega (arith, m.from);
    other = m.other;
    calm = calm_more t d (moment e u) a m.calm;
    whole = whole-more d _ w m.whole;
    examined = omega (arith, m.examined);
  }
  more t d k n (never c) h a w m = record {
    calm = calm_more t d (moment (d + suc k) 0) a (λ i u x y z. m.calm i u x y (omega arith));
    whole = whole-more d (d + suc k) w (λ i x y. m.whole i x (omega arith));
    examined = omega (arith, m.examined);
  }

  -- a refused day stops the search; a day with another state is where it ends; any other day is one more in front of the rest
  look : (a : Told) (t d k n : ℕ) → day d ≡ a → t ≤ 1440 → Means day s 0 (d + 1) k (n + 1) (search day s 0 (d + 1) k (n + 1))
      → Means day s t d (suc k) n (look_at a s t d (n + 1) (search day s 0 (d + 1) k (n + 1)))
  look (refuses r) t d k n e h w = record {
    first = omega arith;
    within = omega arith;
    refused = e;
    calm = λ i u x y z. absurd (omega arith);
    whole = λ i x y. absurd (omega arith);
  }
  look (tells f) t d k n e h w =
      let z = firsts f s (1440 - t) t in let b = z.upto in
      by (ltb (other f s t (1440 - t)) 1440)
      (λ q. let u = ltb-true (other f s t (1440 - t)) 1440 q in let g = z.from in rw q (record {
        within = omega arith;
        minute = u;
        from = omega arith;
        other = rw e (z.stops (omega arith));
        calm = λ i v x y c. let j : i ≡ d = omega arith in rw (j, e) (z.calm v (omega arith) (omega arith));
        whole = λ i x y. let j : i ≡ d = omega arith in rw (j, e) tt;
        examined = omega arith;
      }))
      (λ q. let u = ltb-false (other f s t (1440 - t)) 1440 q in
      rw q (more t d k n (search day s 0 (d + 1) k (n + 1)) h (rw e (λ m x y. z.calm m x (omega arith))) (rw e tt) w))

  -- day by day, each from midnight but the first
  pub means : (k t d n : ℕ) → t ≤ 1440 → Means day s t d k n (search day s t d k n)
  means zero t d n h = record { calm = λ i u x y z. absurd (omega arith); whole = λ i x y. absurd (omega arith); examined = omega arith }
  means (suc k) t d n h = look (day d) t d k n refl h (means k 0 (d + 1) (n + 1) (omega arith))

-- THEOREM: the next change keeps its rule
pub next-means : (day : ℕ → Told) (d t k : ℕ) → t < 1440 → NextMeans day d t k (next_change day d t k)
next-means day d t k h = means day (shown_at (day d) t) k (t + 1) d 0 (omega arith)
