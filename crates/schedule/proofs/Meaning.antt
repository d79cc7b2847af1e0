-- What the answers mean: what a schedule shows at a minute, and that every schedule reached is sound.
use mathlib.Core.Path.{◌≡◌, ap, ◌∙◌}
use mathlib.Core.Bool.{true, cond}
use Rattle.std.specs.Prelude.{Ok}
use mathlib.Core.List.{List, [], ◌∷◌, map}
use Prim.Native.Nat.{ℕ, ◌-◌, ◌≤◌, ◌<◌}
use native.Mathlib.Omega.{arith}
use lib.Dec.{leb}
use lib.ListN.{length, take, replicate, length-map}
use lib.Seq.{take_at}
use borrow.Author.Tests.{leb-true, le-leb}
use Rattle.ranges.specs.Range.{Range, both}
use Rattle.ranges.specs.States.{dark, shows, state_at, over, lit, InOrder, Each, order_b}
use Rattle.ranges.specs.Insertion.{add_r}
use Rattle.ranges.specs.Build.{build_r, covered_b, ends_b, spans, span_of, Apart}
use Rattle.ranges.specs.Closed.{drop_r}
use Rattle.ranges.specs.Words.{range_of, word_of, ranges}
use Rattle.ranges.proofs.Cases.{by, both_true}
use Rattle.ranges.proofs.Points.{add_at}
use Rattle.ranges.proofs.Orders.{in-add, in-full, in_end}
use Rattle.ranges.proofs.States.{each-add, each-build}
use Rattle.ranges.proofs.Builds.{Is, build-at, in-build, few-build, one-build}
use Rattle.ranges.proofs.Runs.{apart-build}
use Rattle.ranges.proofs.Closing.{drop_at, in-drop, each-drop, few-drop}
use Rattle.ranges.proofs.Validity.{Kind, order-in, in_order}
use Rattle.ranges.proofs.WordLaws.{of-comment, AllFit, ranges-back}
use Rattle.schedule.specs.declared.Schedule.{Schedule}
use Rattle.schedule.specs.Schedules.{view, made, valid, build_of, addition_of, drop_of}

-- a kind of 01 and a comment of a byte
abbrev pub State : ℕ → ℕ → Type 0
State k c = (k ≤ 2) × (c < 256)

-- ranges within the day whose states fit a word are read back as they were
pub all_fit : (lo : ℕ) (l : List Range) → InOrder lo l 1440 → Each State l → AllFit l
all_fit lo [] o e = tt
all_fit lo (r ∷ l) o e =
    let p = o.1 in let h = in_end r.end 1440 l o.2 in (
      record { start = omega arith; end = omega arith; kind = omega (arith, e.0.0); comment = e.0.1 },
      all_fit r.end l o.2 e.1,
    )

pub view_made : (l : List Range) → InOrder 0 l 1440 → Each State l → view (made l) ≡ l
view_made l o e =
    ap (λ (z : List ℕ). map range_of z) (take_at (map word_of l) (replicate (64 - length l) 0) (length l) (length-map l word_of))
    ∙ ranges-back l (all_fit 0 l o e)

-- SOUND: sorted, disjoint, nonempty in each range, inside the day; of kinds 0 to 2; at most 64 long
pub record Sound (s : Schedule) : Type 0 where
  pub order : InOrder 0 (view s) 1440
  pub kinds : Each Kind (view s)
  pub few : s.len ≤ 64

-- the test of an offered schedule says just that
pub valid-sound : (s : Schedule) → valid s ≡ true → Sound s
valid-sound s h =
    let p = both_true (leb s.len 64) (order_b 0 (view s)) h in
    let q = order-in 0 (view s) p.1 in
    record { order = q.0; kinds = q.1; few = leb-true _ _ p.0 }

pub sound-valid : (s : Schedule) → Sound s → valid s ≡ true
sound-valid s h = rw (le-leb s.len 64 h.few) (in_order 0 (view s) h.order h.kinds)

-- comments of words are bytes
pub states-of : (l : List ℕ) → Each Kind (ranges l) → Each State (ranges l)
states-of [] e = tt
states-of (w ∷ l) e = let q = of-comment w in ((e.0, omega arith), states-of l e.1)

kinds-of : (l : List Range) → Each State l → Each Kind l
kinds-of [] e = tt
kinds-of (r ∷ l) e = (e.0.0, kinds-of l e.1)

made-sound : (l : List Range) → InOrder 0 l 1440 → Each State l → length l ≤ 64 → Sound (made l)
made-sound l o e h = record { order = rw (view_made l o e) o; kinds = rw (view_made l o e) (kinds-of l e); few = h }

-- a result that is sound, and its ranges
record Holds (s : Schedule) (l : List Range) : Type 0 where
  is : view s ≡ l
  sound : Sound s

holds : (l : List Range) → InOrder 0 l 1440 → Each State l → length l ≤ 64 → Holds (made l) l
holds l o e h = record { is = view_made l o e; sound = made-sound l o e h }

-- an accepted addition
record Sum (a b s : Schedule) : Type 0 where
  first : Sound a
  second : Sound b
  result : Holds s (add_r (view a) (view b))

sum_of : (a b s : Schedule) → addition_of a b ≡ Ok s → Sum a b s
sum_of a b s z =
    by (valid a)
    (λ p. by (valid b)
    (λ q. let l = add_r (view a) (view b) in
    by (leb (length l) 64)
    (λ r.
    let u = valid-sound a p in
    let v = valid-sound b q in
    let is = rw (p, q, r) at z in
    let e : made l ≡ s = cc in
    rw (← e) (record {
      first = u;
      second = v;
      result = holds l
          (in-add (view a) (view b) 0 0 1440 u.order v.order (omega arith))
          (each-add State (view a) (view b) (states-of (take a.len a.words) u.kinds) (states-of (take b.len b.words) v.kinds))
          (leb-true _ _ r);
    }))
    (λ r. let is = rw (p, q, r) at z in cc))
    (λ q. let is = rw (p, q) at z in cc))
    (λ p. let is = rw p at z in cc)

-- THEOREM: at every minute an addition shows the second's state where it shows something, else the first's
pub addition-shows : (a b s : Schedule) → addition_of a b ≡ Ok s → (t : ℕ) → state_at (view s) t ≡ over (state_at (view b) t) (state_at (view a) t)
addition-shows a b s z t =
    let q = sum_of a b s z in
    ap (λ (l : List Range). state_at l t) q.result.is ∙ add_at (view a) (view b) t (in-full 0 1440 (view b) q.second.order)

-- an accepted build
record Runs (given : List ℕ) (k c : ℕ) (s : Schedule) : Type 0 where
  ends : ends_b (spans given) ≡ true
  result : Holds s (build_r k c (spans given))

runs_of : (given : List ℕ) (k c : ℕ) → c < 256 → (s : Schedule) → build_of given k c ≡ Ok s → Runs given k c s
runs_of given k c h s z =
    by (leb k 2)
    (λ p. by (both (leb (length given) 64) (ends_b (spans given)))
    (λ q.
    let b = both_true (leb (length given) 64) (ends_b (spans given)) q in
    let l = build_r k c (spans given) in
    let f = few-build k c (spans given) b.1 in
    let g = length-map given span_of in
    let n = leb-true (length given) 64 b.0 in
    let is = rw (p, q) at z in
    let e : made l ≡ s = cc in
    rw (← e) (record {
      ends = b.1;
      result = holds l (in-build k c (spans given) b.1) (each-build State k c (spans given) (leb-true k 2 p, h)) (omega arith);
    }))
    (λ q. let is = rw (p, q) at z in cc))
    (λ p. let is = rw p at z in cc)

-- THEOREM: a build shows its state exactly where some given span covers, and nothing elsewhere
pub build-shows : (given : List ℕ) (k c : ℕ) → c < 256 → (s : Schedule) → build_of given k c ≡ Ok s → (t : ℕ) → state_at (view s) t ≡ cond (covered_b (spans given) t) (shows k c) dark
build-shows given k c h s z t = ap (λ (l : List Range). state_at l t) (runs_of given k c h s z).result.is ∙ build-at k c (spans given) t

-- THEOREM: the ranges of a build are maximal runs
pub build-apart : (given : List ℕ) (k c : ℕ) → c < 256 → (s : Schedule) → build_of given k c ≡ Ok s → Apart 0 (view s)
build-apart given k c h s z = let r = runs_of given k c h s z in rw r.result.is (apart-build k c (spans given) r.ends)

-- and each is in the build's state
pub build-one : (given : List ℕ) (k c : ℕ) → c < 256 → (s : Schedule) → build_of given k c ≡ Ok s → Each (Is k c) (view s)
build-one given k c h s z = rw (runs_of given k c h s z).result.is (one-build k c (spans given))

-- an accepted dropping
record Dropped (s d : Schedule) : Type 0 where
  first : Sound s
  result : Holds d (drop_r (view s))

dropped-of : (s d : Schedule) → drop_of s ≡ Ok d → Dropped s d
dropped-of s d z =
    by (valid s)
    (λ p.
    let u = valid-sound s p in
    let e = states-of (take s.len s.words) u.kinds in
    let f = few-drop (view s) in
    let n = few-view s in
    let k = u.few in
    let is = rw p at z in
    let same : made (drop_r (view s)) ≡ d = cc in
    rw (← same) (record { first = u; result = holds (drop_r (view s)) (in-drop 0 1440 (view s) u.order) (each-drop State (view s) e) (omega arith) }))
    (λ p. let is = rw p at z in cc)
  where
    few-view : (s : Schedule) → length (view s) ≤ s.len
    few-view s = rw (length-map (take s.len s.words) range_of, lib.ListN.length-take) (omega arith)

-- THEOREM: dropping closed ranges changes no minute, holes being closed
pub drop-shows : (s d : Schedule) → drop_of s ≡ Ok d → (t : ℕ) → lit (state_at (view d) t) ≡ lit (state_at (view s) t)
drop-shows s d z t =
    let q = dropped-of s d z in
    ap (λ (l : List Range). lit (state_at l t)) q.result.is ∙ drop_at 0 1440 (view s) t q.first.order

-- the schedules that accepted operations reach from the empty one
pub data Reached : Schedule → Type 0 where
  none : Reached (made [])
  built : (given : List ℕ) (k c : ℕ) → c < 256 → (s : Schedule) → build_of given k c ≡ Ok s → Reached s
  added : (a b : Schedule) → Reached a → Reached b → (s : Schedule) → addition_of a b ≡ Ok s → Reached s
  dropped : (s : Schedule) → Reached s → (d : Schedule) → drop_of s ≡ Ok d → Reached d

-- THEOREM: whatever is reached is sound
pub reached-sound : (s : Schedule) → Reached s → Sound s
reached-sound _ none = made-sound [] (omega arith) tt (omega arith)
reached-sound _ (built given k c h s z) = (runs_of given k c h s z).result.sound
reached-sound _ (added a b p q s z) = (sum_of a b s z).result.sound
reached-sound _ (dropped s p d z) = (dropped-of s d z).result.sound
