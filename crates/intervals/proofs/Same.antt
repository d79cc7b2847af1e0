-- The search gives what the rules' kept bounds and pairs give: no drop changes which interval decides.
-- Assumes nothing.
use mathlib.Core.Path.{◌≡◌, refl, sym, ap, ◌∙◌}
use mathlib.Core.Bool.{Bool, true, false, cond, ◌&&◌, true≢false}
use mathlib.Core.List.{List, [], ◌∷◌}
use Prim.Native.Nat.{ℕ, ◌≤◌, ◌<◌}
use native.Mathlib.Decide.{dec_lt, ℕ_discrete}
use native.Mathlib.Omega.{arith}
use borrow.Author.Tests.{le-leb, lt-leb, lt-ltb, le-ltb, eq-eqb, ne_eqb}
use lib.Dec.{leb}
use Rattle.std.proofs.Common.{Some, None}
use Rattle.std.specs.List.{find}
use Rattle.std.specs.Option.{is_some}
use Rattle.intervals.specs.Intervals.{first_day, last_day, rising, kept, drop_below, first_left, leave, Interval, pairs, ends_only, joined, decides}
use Rattle.intervals.specs.Search.{end_for, chosen, unstarted, searched}

-- going through the starts, a step at a time
walked : ℕ → List ℕ → List ℕ → Bool
walked n ss es = chosen n (find (λ t. leb n (end_for t es)) ss)

stop : (n s : ℕ) (ss es : List ℕ) → n ≤ end_for s es → walked n (s ∷ ss) es ≡ leb s n
unfolding walked chosen
stop n s ss es h = simp (le-leb n (end_for s es) h)

go_on : (n s : ℕ) (ss es : List ℕ) → end_for s es < n → walked n (s ∷ ss) es ≡ walked n ss es
unfolding walked
go_on n s ss es h = simp (lt-leb n (end_for s es) h)

-- the definitions, a case at a time
rise : (last x : ℕ) (xs : List ℕ) → last < x → rising last (x ∷ xs) ≡ x ∷ rising x xs
unfolding rising
rise last x xs h = simp (lt-ltb last x h)

pass : (last x : ℕ) (xs : List ℕ) → x ≤ last → rising last (x ∷ xs) ≡ rising last xs
unfolding rising
pass last x xs h = simp (le-ltb last x h)

-- the end that the rules give a start
least : ℕ → List ℕ → ℕ
least s es = first_left (drop_below s es)

least-none : (s : ℕ) → least s [] ≡ last_day
unfolding least drop_below first_left
least-none s = refl

least-here : (s e : ℕ) (es : List ℕ) → s ≤ e → least s (e ∷ es) ≡ e
unfolding least drop_below first_left
least-here s e es h = simp (le-ltb e s h)

least-next : (s e : ℕ) (es : List ℕ) → e < s → least s (e ∷ es) ≡ least s es
unfolding least drop_below
least-next s e es h = simp (lt-ltb e s h)

-- it is the plain one
end_is : (s : ℕ) (es : List ℕ) → end_for s es ≡ least s es
unfolding end_for
end_is s [] = sym (least-none s)
end_is s (e ∷ es) = by_cases (end_is s es) (dec_lt e s)
  where
    by_cases : end_for s es ≡ least s es → Dec (e < s) → end_for s (e ∷ es) ≡ least s (e ∷ es)
    by_cases r (yes k) = rw (least-next s e es k) (simp (lt-leb s e k) r)
    by_cases r (no k) = rw (least-here s e es (omega arith)) (simp (le-leb s e (omega arith)))

-- what was dropped for one start is below a later one
later : (s t : ℕ) → s < t → (es : List ℕ) → least t (leave s (drop_below s es)) ≡ least t es
unfolding drop_below leave
later s t h [] = refl
later s t h (e ∷ es) = by_cases (later s t h es) (dec_lt e s) (ℕ_discrete e s)
  where
    by_cases : least t (leave s (drop_below s es)) ≡ least t es → Dec (e < s) → Dec (e ≡ s) →
        least t (leave s (drop_below s (e ∷ es))) ≡ least t (e ∷ es)
    by_cases r (yes k) d = simp (lt-ltb e s k) (r ∙ sym (least-next t e es (omega arith)))
    by_cases r (no k) (yes d) = simp (le-ltb e s (omega arith), eq-eqb e s d) (sym (least-next t e es (omega arith)))
    by_cases r (no k) (no d) = simp (le-ltb e s (omega arith), ne_eqb e s d)

risen : (s last : ℕ) → last < s → (es : List ℕ) → least s (rising last es) ≡ least s es
unfolding rising
risen s last h [] = refl
risen s last h (e ∷ es) = by_cases (λ k. risen s e k es) (risen s last h es) (dec_lt last e) (dec_lt e s)
  where
    by_cases : (e < s → least s (rising e es) ≡ least s es) → least s (rising last es) ≡ least s es → Dec (last < e) → Dec (e < s) →
        least s (rising last (e ∷ es)) ≡ least s (e ∷ es)
    by_cases q r (yes k) (yes l) = rw (rise last e es k, least-next s e (rising e es) l, least-next s e es l) (q l)
    by_cases q r (yes k) (no l) = rw (rise last e es k, least-here s e (rising e es) (omega arith), least-here s e es (omega arith))
    by_cases q r (no k) l = rw (pass last e es (omega arith), least-next s e es (omega arith)) r

above : (s : ℕ) (es : List ℕ) → least s es < last_day → s ≤ least s es
above s [] h = absurd (omega (arith, least-none s))
above s (e ∷ es) h = by_cases (above s es) (dec_lt e s)
  where
    by_cases : (least s es < last_day → s ≤ least s es) → Dec (e < s) → s ≤ least s (e ∷ es)
    by_cases r (yes k) = rw (least-next s e es k) (r (omega (arith, least-next s e es k)))
    by_cases r (no k) = rw (least-here s e es (omega arith)) (omega arith)

-- a start that is not above the last one has an end that is passed too
passed : (n s last : ℕ) → n ≤ last_day → s ≤ last → (es : List ℕ) → least last es < n → least s es < n
passed n s last i h [] k = absurd (omega (arith, least-none last))
passed n s last i h (e ∷ es) k = by_cases (passed n s last i h es) (dec_lt e s) (dec_lt e last)
  where
    by_cases : (least last es < n → least s es < n) → Dec (e < s) → Dec (e < last) → least s (e ∷ es) < n
    by_cases r (yes p) d = rw (least-next s e es p) (r (omega (arith, least-next last e es (omega arith))))
    by_cases r (no p) (yes q) =
        rw (least-here s e es (omega arith)) (omega (arith, least-next last e es q, above last es (omega (arith, least-next last e es q))))
    by_cases r (no p) (no q) = rw (least-here s e es (omega arith)) (omega (arith, least-here last e es (omega arith)))

-- one pair in front
pair : ℕ → ℕ → List Interval → List Interval
pair s e r = record { start = s; end = e } ∷ r

paired : (s : ℕ) (ss es : List ℕ) → pairs (s ∷ ss) es ≡ pair s (least s es) (pairs ss (leave s (drop_below s es)))
unfolding pairs pair least
paired s ss es = refl

front-yes : (n s e : ℕ) (r : List Interval) → n ≤ e → decides n (pair s e r) ≡ leb s n
unfolding decides pair
front-yes n s e r h = simp (le-leb n e h)

front-no : (n s e : ℕ) (r : List Interval) → e < n → decides n (pair s e r) ≡ decides n r
unfolding decides pair
front-no n s e r h = simp (lt-leb n e h)

-- the ends left, fs, serve the starts after the last one as all the ends, es, do
Serves : ℕ → List ℕ → List ℕ → Type 0
Serves last fs es = (t : ℕ) → last < t → least t fs ≡ least t es

serves_on : (last s : ℕ) (fs es : List ℕ) → last < s → Serves last fs es → Serves s (leave s (drop_below s fs)) es
unfolding Serves
serves_on last s fs es h v t k = later s t k fs ∙ v t (omega arith)

nothing : (n last : ℕ) (fs es : List ℕ) → walked n [] es ≡ decides n (pairs (rising last []) fs)
unfolding walked chosen decides pairs rising
nothing n last fs es = refl

-- so do the kept ends from the first start on
all-kept : (t : ℕ) (es : List ℕ) → least t (kept es) ≡ least t es
unfolding kept
all-kept t [] = refl
all-kept t (e ∷ es) = by_cases (dec_lt e t)
  where
    by_cases : Dec (e < t) → least t (e ∷ rising e es) ≡ least t (e ∷ es)
    by_cases (yes h) = rw (least-next t e (rising e es) h, least-next t e es h) (risen t e h es)
    by_cases (no h) = rw (least-here t e (rising e es) (omega arith), least-here t e es (omega arith))

module _ (n : ℕ) (i : n ≤ last_day) (es : List ℕ) where
  -- one start that is kept, with what the rest gives
  turn : (s : ℕ) (ss fs : List ℕ) → least s fs ≡ least s es →
      (least s es < n → walked n ss es ≡ decides n (pairs (rising s ss) (leave s (drop_below s fs)))) →
      walked n (s ∷ ss) es ≡ decides n (pairs (s ∷ rising s ss) fs)
  turn s ss fs v r = rw (paired s (rising s ss) fs) (by_cases (dec_lt (least s es) n))
    where
      rest : List Interval
      rest = pairs (rising s ss) (leave s (drop_below s fs))

      by_cases : Dec (least s es < n) → walked n (s ∷ ss) es ≡ decides n (pair s (least s fs) rest)
      by_cases (yes k) = go_on n s ss es (omega (arith, end_is s es)) ∙ r k ∙ sym (front-no n s (least s fs) rest (omega (arith, v)))
      by_cases (no k) = stop n s ss es (omega (arith, end_is s es)) ∙ sym (front-yes n s (least s fs) rest (omega (arith, v)))

  on : (ss : List ℕ) (last : ℕ) (fs : List ℕ) → Serves last fs es → least last es < n → walked n ss es ≡ decides n (pairs (rising last ss) fs)
  unfolding Serves
  on [] last fs v k = nothing n last fs es
  on (s ∷ ss) last fs v k = by_cases (λ h. on ss s (leave s (drop_below s fs)) (serves_on last s fs es h v)) (on ss last fs v k) (dec_lt last s)
    where
      by_cases : (last < s → least s es < n → walked n ss es ≡ decides n (pairs (rising s ss) (leave s (drop_below s fs)))) →
          walked n ss es ≡ decides n (pairs (rising last ss) fs) →
          Dec (last < s) →
          walked n (s ∷ ss) es ≡ decides n (pairs (rising last (s ∷ ss)) fs)
      by_cases q r (yes h) = rw (rise last s ss h) (turn s ss fs (v s h) (q h))
      by_cases q r (no h) =
          rw (pass last s ss (omega arith)) (go_on n s ss es (omega (arith, end_is s es, passed n s last i (omega arith) es k)) ∙ r)

ends-only : (n : ℕ) (es : List ℕ) → unstarted n es ≡ decides n (ends_only (kept es))
unfolding unstarted ends_only kept decides
ends-only n [] = refl
ends-only n (e ∷ es) = go (leb n e) (leb first_day n)
  where
    go : (p q : Bool) → (q && p) ≡ cond p q false
    go true true = refl
    go true false = refl
    go false true = refl
    go false false = refl

-- what the code computes is what the rules say
pub same : (n : ℕ) → n ≤ last_day → (ss es : List ℕ) → searched n ss es ≡ decides n (joined (kept ss) (kept es))
unfolding searched joined kept walked Serves
same n h [] es = ends-only n es
same n h (s ∷ ss) es =
    turn n h es s ss (kept es) (all-kept s es)
    (on n h es ss s (leave s (drop_below s (kept es))) (λ t k. later s t k (kept es) ∙ all-kept t es))

-- what the search is, by the start that it found
pub found-start : (n s : ℕ) (ss es : List ℕ) → find (λ t. leb n (end_for t es)) ss ≡ Some s → leb s n ≡ searched n ss es
unfolding searched chosen
found-start n s [] es e = absurd cc
found-start n s (t ∷ ss) es e = rw e

-- a list with a day in it has a first
some-first : (t : ℕ) (ts : List ℕ) → find (λ x. leb 0 x) (t ∷ ts) ≡ Some t
some-first t ts = simp (le-leb 0 t (omega arith))

pub no-start : (n : ℕ) (ss es : List ℕ) → is_some (find (λ t. leb 0 t) ss) ≡ false → unstarted n es ≡ searched n ss es
unfolding searched
no-start n [] es h = refl
no-start n (s ∷ ss) es h = absurd (true≢false (ap is_some (sym (some-first s ss)) ∙ h))

pub all-passed : (n : ℕ) (ss es : List ℕ) → find (λ t. leb n (end_for t es)) ss ≡ None → is_some (find (λ t. leb 0 t) ss) ≡ true → false ≡ searched n ss es
unfolding searched chosen
all-passed n [] es e h = absurd (true≢false (sym h))
all-passed n (s ∷ ss) es e h = rw e

-- the first end, or none
pub up_to : (n e : ℕ) (es : List ℕ) → find (λ t. leb 0 t) es ≡ Some e → unstarted n es ≡ (leb first_day n && leb n e)
unfolding unstarted
up_to n e [] h = absurd cc
up_to n e (t ∷ es) h = let k : t ≡ e = cc (some-first t es) in ap (λ x. leb first_day n && leb n x) k

pub up_to_none : (n : ℕ) (es : List ℕ) → find (λ t. leb 0 t) es ≡ None → unstarted n es ≡ false
unfolding unstarted
up_to_none n [] h = refl
up_to_none n (t ∷ es) h = absurd (cc (some-first t es))
