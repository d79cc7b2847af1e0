-- The kth day on a weekday, counted along a list of days, lies so many days off: the gap to the first, and a week for each more.
-- Assumes nothing.
use mathlib.Core.Path.{◌≡◌, refl, ap, sym, ◌∙◌}
use mathlib.Core.List.{List, [], ◌∷◌}
use Prim.Native.Nat.{ℕ, zero, suc, ◌+◌, ◌*◌, ◌-◌, ◌%◌, ◌≤◌, ◌<◌}
use native.Mathlib.Decide.{dec_lt, ℕ_discrete}
use native.Mathlib.Omega.{arith}
use borrow.Author.Tests.{eq-eqb, ne_eqb}
use Rattle.std.proofs.Common.{Option, Some, None}
use Rattle.calendar.specs.Calendar.{weekday}
use Rattle.calendar.proofs.Weeks.{weekday-low}
use Rattle.date_bounds.specs.Bounds.{forward, backward, kth}

-- weekdays follow each other
record Next (x y : ℕ) : Type 0 where
  up : x < 6 → y ≡ x + 1
  over : 6 ≤ x → y ≡ 0

next : (n : ℕ) → Next (weekday n) (weekday (n + 1))
unfolding weekday
next n = record { up = λ h. omega arith; over = λ h. omega arith }

-- the days from a weekday x to the next w, and from the last w to x
ahead : ℕ → ℕ → ℕ
ahead w x = (w + 7 - x) % 7

behind : ℕ → ℕ → ℕ
behind w x = (x + 7 - w) % 7

ahead-zero : (w x : ℕ) → x ≡ w → ahead w x ≡ 0
unfolding ahead
ahead-zero w x e = omega arith

behind-zero : (w x : ℕ) → x ≡ w → behind w x ≡ 0
unfolding behind
behind-zero w x e = omega arith

module _ (w x y : ℕ) (h : w < 7) (i : x < 7) (n : Next x y) where
  ahead-six : x ≡ w → ahead w y ≡ 6
  unfolding ahead
  ahead-six e = by_cases (dec_lt x 6)
    where
      by_cases : Dec (x < 6) → ahead w y ≡ 6
      by_cases (yes k) = omega (arith, n.up k)
      by_cases (no k) = omega (arith, n.over (omega arith))

  ahead-less : (x ≡ w → ⊥) → ahead w x ≡ ahead w y + 1
  unfolding ahead
  ahead-less e = by_cases (dec_lt x 6)
    where
      by_cases : Dec (x < 6) → ahead w x ≡ ahead w y + 1
      by_cases (yes k) = omega (arith, n.up k)
      by_cases (no k) = omega (arith, n.over (omega arith))

  behind-six : y ≡ w → behind w x ≡ 6
  unfolding behind
  behind-six e = by_cases (dec_lt x 6)
    where
      by_cases : Dec (x < 6) → behind w x ≡ 6
      by_cases (yes k) = omega (arith, n.up k)
      by_cases (no k) = omega (arith, n.over (omega arith))

  behind-less : (y ≡ w → ⊥) → behind w y ≡ behind w x + 1
  unfolding behind
  behind-less e = by_cases (dec_lt x 6)
    where
      by_cases : Dec (x < 6) → behind w y ≡ behind w x + 1
      by_cases (yes k) = omega (arith, n.up k)
      by_cases (no k) = omega (arith, n.over (omega arith))

-- the kth among c days after b lies g days and k - 1 weeks after the first, or there is none
record Ahead (r : Option ℕ) (b g k c : ℕ) : Type 0 where
  hit : g + 7 * k ≤ c + 6 → (n : ℕ) → n + 6 ≡ b + g + 7 * k → r ≡ Some n
  miss : c + 6 < g + 7 * k → r ≡ None

module _ (w : ℕ) (h : w < 7) where
  found : (c b k : ℕ) → 1 ≤ k → Ahead (kth w k (forward b c)) b (ahead w (weekday (b + 1))) k c
  unfolding forward kth
  found zero b k i = record { hit = λ q n e. absurd (omega arith); miss = λ q. refl }
  found (suc c) b k i = by_cases (found c (b + 1)) (ℕ_discrete (weekday (b + 1)) w) (ℕ_discrete k 1)
    where
      x : ℕ
      x = weekday (b + 1)

      y : ℕ
      y = weekday (b + 1 + 1)

      by_cases : ((k : ℕ) → 1 ≤ k → Ahead (kth w k (forward (b + 1) c)) (b + 1) (ahead w y) k c) → Dec (x ≡ w) → Dec (k ≡ 1) →
          Ahead (kth w k (forward b (suc c))) b (ahead w x) k (suc c)
      by_cases r (yes e) (yes f) =
          simp (eq-eqb x w e, eq-eqb k 1 f)
          (record { hit = λ q n d. ap Some (omega (arith, ahead-zero w x e)); miss = λ q. absurd (omega (arith, ahead-zero w x e)) })
      by_cases r (yes e) (no f) =
          let z = ahead-zero w x e in
          let s = ahead-six w x y h (weekday-low (b + 1)) (next (b + 1)) e in
          let t = r (k - 1) (omega arith) in
          simp (eq-eqb x w e, ne_eqb k 1 f)
          (record { hit = λ q n d. t.hit (omega (arith, z, s)) n (omega (arith, z, s)); miss = λ q. t.miss (omega (arith, z, s)) })
      by_cases r (no e) d =
          let l = ahead-less w x y h (weekday-low (b + 1)) (next (b + 1)) e in
          let t = r k i in
          simp (ne_eqb x w e)
          (record { hit = λ q n d. t.hit (omega (arith, l)) n (omega (arith, l)); miss = λ q. t.miss (omega (arith, l)) })

-- and from the last: g days and k - 1 weeks before it
record Behind (r : Option ℕ) (b g k c : ℕ) : Type 0 where
  hit : g + 7 * k ≤ c + 6 → (n : ℕ) → n + g + 7 * k ≡ b + c + 7 → r ≡ Some n
  miss : c + 6 < g + 7 * k → r ≡ None

module _ (w : ℕ) (h : w < 7) (b : ℕ) where
  found_back : (c n k : ℕ) → n ≡ b + c → 1 ≤ k → Behind (kth w k (backward b c)) b (behind w (weekday n)) k c
  unfolding backward kth
  found_back zero n k e i = record { hit = λ q m d. absurd (omega arith); miss = λ q. refl }
  found_back (suc c) n k e i =
      rw (top n e) (by_cases (λ k. found_back c (b + c) k refl) (ℕ_discrete (weekday (b + c + 1)) w) (ℕ_discrete k 1))
    where
      top : (n : ℕ) → n ≡ b + suc c → n ≡ b + c + 1
      top n e = omega arith

      x : ℕ
      x = weekday (b + c)

      y : ℕ
      y = weekday (b + c + 1)

      by_cases : ((k : ℕ) → 1 ≤ k → Behind (kth w k (backward b c)) b (behind w x) k c) → Dec (y ≡ w) → Dec (k ≡ 1) →
          Behind (kth w k (backward b (suc c))) b (behind w y) k (suc c)
      by_cases r (yes d) (yes f) =
          simp (eq-eqb y w d, eq-eqb k 1 f)
          (record { hit = λ q m e. ap Some (omega (arith, behind-zero w y d)); miss = λ q. absurd (omega (arith, behind-zero w y d)) })
      by_cases r (yes d) (no f) =
          let z = behind-zero w y d in
          let s = behind-six w x y h (weekday-low (b + c)) (next (b + c)) d in
          let t = r (k - 1) (omega arith) in
          simp (eq-eqb y w d, ne_eqb k 1 f)
          (record { hit = λ q m e. t.hit (omega (arith, z, s)) m (omega (arith, z, s)); miss = λ q. t.miss (omega (arith, z, s)) })
      by_cases r (no d) f =
          let l = behind-less w x y h (weekday-low (b + c)) (next (b + c)) d in
          let t = r k i in
          simp (ne_eqb y w d)
          (record { hit = λ q m e. t.hit (omega (arith, l)) m (omega (arith, l)); miss = λ q. t.miss (omega (arith, l)) })

-- the first of none
pub none : (w : ℕ) (l : List ℕ) → None ≡ kth w 0 l
unfolding kth
none w [] = refl
none w (n ∷ l) = by_cases (none w l) (ℕ_discrete (weekday n) w)
  where
    by_cases : None ≡ kth w 0 l → Dec (weekday n ≡ w) → None ≡ kth w 0 (n ∷ l)
    by_cases r (yes e) = simp (eq-eqb (weekday n) w e) r
    by_cases r (no e) = simp (ne_eqb (weekday n) w e) r

-- as the code computes it, with the weekday of the first day or the last in hand
module _ (b c w k x : ℕ) (h : w < 7) (i : 1 ≤ k) where
  pub start-hit : x ≡ weekday (b + 1) → (w + 7 - x) % 7 + 7 * k - 6 ≤ c → Some (b + ((w + 7 - x) % 7 + 7 * k - 6)) ≡ kth w k (forward b c)
  unfolding ahead
  start-hit e q = sym ((found w h c b k i).hit (omega (arith, ap (ahead w) e)) (b + ((w + 7 - x) % 7 + 7 * k - 6)) (omega (arith, ap (ahead w) e)))

  pub start-miss : x ≡ weekday (b + 1) → c < (w + 7 - x) % 7 + 7 * k - 6 → None ≡ kth w k (forward b c)
  unfolding ahead
  start-miss e q = sym ((found w h c b k i).miss (omega (arith, ap (ahead w) e)))

  pub end-hit : x ≡ weekday (b + c) → (x + 7 - w) % 7 + 7 * k - 7 < c → Some (b + c - ((x + 7 - w) % 7 + 7 * k - 7)) ≡ kth w k (backward b c)
  unfolding behind
  end-hit e q =
      sym ((found_back w h b c (b + c) k refl i).hit (omega (arith, ap (behind w) e)) (b + c - ((x + 7 - w) % 7 + 7 * k - 7)) (omega (arith, ap (behind w) e)))

  pub end-miss : x ≡ weekday (b + c) → c ≤ (x + 7 - w) % 7 + 7 * k - 7 → None ≡ kth w k (backward b c)
  unfolding behind
  end-miss e q = sym ((found_back w h b c (b + c) k refl i).miss (omega (arith, ap (behind w) e)))

-- what is found lies among the days
pub kth-within : (b c w k n : ℕ) → w < 7 → kth w k (forward b c) ≡ Some n → (b < n) × (n ≤ b + c)
kth-within b c w k n h f = by_cases (ℕ_discrete k 0) (dec_lt (c + 6) (ahead w (weekday (b + 1)) + 7 * k))
  where
    by_cases : Dec (k ≡ 0) → Dec (c + 6 < ahead w (weekday (b + 1)) + 7 * k) → (b < n) × (n ≤ b + c)
    by_cases (yes z) d = let e : None ≡ Some n = none w (forward b c) ∙ ap (λ j. kth w j (forward b c)) (sym z) ∙ f in absurd cc
    by_cases (no z) (yes q) = let e : None ≡ Some n = sym ((found w h c b k (omega arith)).miss q) ∙ f in absurd cc
    by_cases (no z) (no q) =
        let m = b + ahead w (weekday (b + 1)) + 7 * k - 6 in
        let e : Some m ≡ Some n = sym ((found w h c b k (omega arith)).hit (omega arith) m (omega arith)) ∙ f in
        let g : m ≡ n = cc in
        omega arith

pub kth-within-back : (b c w k n : ℕ) → w < 7 → kth w k (backward b c) ≡ Some n → (b < n) × (n ≤ b + c)
kth-within-back b c w k n h f = by_cases (ℕ_discrete k 0) (dec_lt (c + 6) (behind w (weekday (b + c)) + 7 * k))
  where
    by_cases : Dec (k ≡ 0) → Dec (c + 6 < behind w (weekday (b + c)) + 7 * k) → (b < n) × (n ≤ b + c)
    by_cases (yes z) d = let e : None ≡ Some n = none w (backward b c) ∙ ap (λ j. kth w j (backward b c)) (sym z) ∙ f in absurd cc
    by_cases (no z) (yes q) = let e : None ≡ Some n = sym ((found_back w h b c (b + c) k refl (omega arith)).miss q) ∙ f in absurd cc
    by_cases (no z) (no q) =
        let m = b + c + 7 - (behind w (weekday (b + c)) + 7 * k) in
        let e : Some m ≡ Some n = sym ((found_back w h b c (b + c) k refl (omega arith)).hit (omega arith) m (omega arith)) ∙ f in
        let g : m ≡ n = cc in
        omega arith
