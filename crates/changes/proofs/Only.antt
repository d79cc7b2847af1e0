-- The rule of the next change has one answer.
use mathlib.Core.Path.{◌≡◌, sym, ap, ◌∙◌, subst}
use mathlib.Core.Bool.{false≢true}
use Prim.Native.Nat.{ℕ, ◌+◌, ◌<◌}
use native.Mathlib.Omega.{arith}
use Rattle.ranges.specs.States.{Shown}
use Rattle.ranges.proofs.Cases.{split}
use Rattle.changes.specs.Search.{Told, refuses, tells, Found, stopped, changes, never, shown_at, next_change}
use Rattle.changes.specs.Meaning.{moment, Whole, Changed, Stopped, Still, Means, NextMeans}
use Rattle.changes.proofs.Means.{next-means}

-- the rule of a refused day
abbrev rule-of : Told → ℕ
rule-of (refuses r) = r
rule-of (tells f) = 0

-- a refused day is not whole
not-whole : (a : Told) (r : ℕ) → a ≡ refuses r → Whole a → ⊥
not-whole a r e w = subst Whole e w

module _ (day : ℕ → Told) (s : Shown) (t d k n : ℕ) where
  -- of two first minutes of another state neither is the earlier: the later's calm holds it
  no-earlier : (e m c e' m' c' : ℕ) → Changed day s t d k n e m c → Changed day s t d k n e' m' c' → moment e m < moment e' m' → ⊥
  no-earlier e m c e' m' c' a b h = false≢true (sym a.other ∙ b.calm e m a.minute a.from h)

  -- so that they are the same minute, and the days up to it as many
  one-change : (e m c e' m' c' : ℕ) → Changed day s t d k n e m c → Changed day s t d k n e' m' c' → changes e m c ≡ changes e' m' c'
  one-change e m c e' m' c' a b =
      let g = a.minute in let h = b.minute in
      let p : moment e m ≡ moment e' m' = split (moment e m) (moment e' m')
      (λ i. absurd (no-earlier e m c e' m' c' a b i))
      (λ i. split (moment e' m') (moment e m) (λ j. absurd (no-earlier e' m' c' e m c b a j)) (λ j. omega arith)) in
      let x : e ≡ e' = omega arith in
      let y : m ≡ m' = omega arith in
      let z : c ≡ c' = omega (arith, a.examined, b.examined) in
      rw (x, y, z)

  -- a change lies before the refused day, where all is calm, or the refused day is among those that are whole
  no_stop : (e m c e' r : ℕ) → Changed day s t d k n e m c → Stopped day s t d k e' r → ⊥
  no_stop e m c e' r a b =
      let g = a.minute in
      split e e'
      (λ h. false≢true (sym a.other ∙ b.calm e m a.minute a.from (omega arith)))
      (λ h. not-whole (day e') r b.refused (a.whole e' b.first (omega arith)))

  -- where nothing changes within the days, no minute of them is another
  no-still : (e m c c' : ℕ) → Changed day s t d k n e m c → Still day s t d k n c' → ⊥
  no-still e m c c' a b = let g = a.minute in let h = a.within in false≢true (sym a.other ∙ b.calm e m a.minute a.from (omega arith))

  -- the first refused day
  one-stop : (e r e' r' : ℕ) → Stopped day s t d k e r → Stopped day s t d k e' r' → stopped e r ≡ stopped e' r'
  one-stop e r e' r' a b =
      let x : e ≡ e' = split e e'
      (λ h. absurd (not-whole (day e) r a.refused (b.whole e a.first h)))
      (λ h. split e' e (λ j. absurd (not-whole (day e') r' b.refused (a.whole e' b.first j))) (λ j. omega arith)) in
      let y : r ≡ r' = ap rule-of (sym a.refused ∙ ap day x ∙ b.refused) in
      rw (x, y)

  -- where all the days are whole, none of them is refused
  not-still : (e r c : ℕ) → Stopped day s t d k e r → Still day s t d k n c → ⊥
  not-still e r c a b = not-whole (day e) r a.refused (b.whole e a.first a.within)

  -- answers of one kind are equal, and no two kinds go together
  one_answer : (a b : Found) → Means day s t d k n a → Means day s t d k n b → a ≡ b
  one_answer (changes e m c) (changes e' m' c') x y = one-change e m c e' m' c' x y
  one_answer (changes e m c) (stopped e' r) x y = absurd (no_stop e m c e' r x y)
  one_answer (changes e m c) (never c') x y = absurd (no-still e m c c' x y)
  one_answer (stopped e r) (changes e' m c) x y = absurd (no_stop e' m c e r y x)
  one_answer (stopped e r) (stopped e' r') x y = one-stop e r e' r' x y
  one_answer (stopped e r) (never c) x y = absurd (not-still e r c x y)
  one_answer (never c) (changes e m c') x y = absurd (no-still e m c' c y x)
  one_answer (never c) (stopped e r) x y = absurd (not-still e r c y x)
  one_answer (never c) (never c') x y = ap never (x.examined ∙ sym y.examined)

-- THEOREM: the next change is the only answer that keeps the rule
pub only_next : (day : ℕ → Told) (d t k : ℕ) (a : Found) → t < 1440 → NextMeans day d t k a → a ≡ next_change day d t k
only_next day d t k a h m = one_answer day (shown_at (day d) t) (t + 1) d k 0 a (next_change day d t k) m (next-means day d t k h)
