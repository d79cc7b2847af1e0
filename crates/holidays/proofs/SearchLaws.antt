-- The search over day numbers: days without a holiday may be passed over, the first with one is the answer, and where there is none there is no answer.
-- Assumes nothing.
use mathlib.Core.Path.{◌≡◌, refl, ap, sym, ◌∙◌, subst}
use mathlib.Core.Bool.{true, false}
use mathlib.Core.List.{List}
use Rattle.std.specs.Prelude.{Some, None}
use Prim.Native.Nat.{ℕ, zero, suc, ◌+◌, ◌-◌, ◌≤◌, ◌<◌}
use native.Mathlib.Nat.{add-zero, zero-add}
use native.Mathlib.Omega.{arith}
use Rattle.calendar.specs.Calendar.{before_year, date_of}
use Rattle.holiday_image.specs.Image.{names}
use Rattle.holidays.specs.Answers.{first_among, first_from}

-- no day after n, up to t, is a holiday
pub record Clear (s : List ℕ) (n t : ℕ) : Type 0 where
  pub clear : (j : ℕ) → n < j → j ≤ t → names s (date_of j) ≡ false

among-skip : (s : List ℕ) (n t k : ℕ) → ((j : ℕ) → n < j → j ≤ n + t → names s (date_of j) ≡ false) → first_among s n (t + k) ≡ first_among s (n + t) k
unfolding first_among
among-skip s n zero k c = rw (zero-add k, add-zero n)
among-skip s n (suc t) k c =
    let h : names s (date_of (suc n)) ≡ false = c (suc n) (omega arith) (omega arith) in
    let e : suc t + k ≡ suc (t + k) = omega arith in
    let f : n + suc t ≡ suc n + t = omega arith in
    rw (e, h, f) (among-skip s (suc n) t k (λ j l u. c j (omega arith) (omega arith)))

among-here : (s : List ℕ) (n k : ℕ) → names s (date_of (suc n)) ≡ true → first_among s n (suc k) ≡ Some (date_of (suc n))
unfolding first_among
among-here s n k e = rw e

among_none : (s : List ℕ) (n k : ℕ) → ((j : ℕ) → n < j → names s (date_of j) ≡ false) → first_among s n k ≡ None
unfolding first_among
among_none s n zero c = refl
among_none s n (suc k) c =
    let h : names s (date_of (suc n)) ≡ false = c (suc n) (omega arith) in
    rw h (among_none s (suc n) k (λ j l. c j (omega arith)))

pub from-skip : (s : List ℕ) (n t : ℕ) → n ≤ t → t ≤ before_year 10000 → Clear s n t → first_from s n ≡ first_from s t
unfolding first_from
from-skip s n t h l c =
    let e : before_year 10000 - n ≡ t - n + (before_year 10000 - t) = omega arith in
    let f : n + (t - n) ≡ t = omega arith in
    ap (first_among s n) e
    ∙ among-skip s n (t - n) (before_year 10000 - t) (λ j i u. c.clear j i (omega arith))
    ∙ ap (λ (k : ℕ). first_among s k (before_year 10000 - t)) f

from-here : (s : List ℕ) (n : ℕ) → n < before_year 10000 → names s (date_of (suc n)) ≡ true → first_from s n ≡ Some (date_of (suc n))
unfolding first_from
from-here s n h e =
    let f : before_year 10000 - n ≡ suc (before_year 10000 - suc n) = omega arith in
    ap (first_among s n) f ∙ among-here s n (before_year 10000 - suc n) e

-- day j, with no holiday between n and it, is the first
pub from_on : (s : List ℕ) (n j : ℕ) → n < j → j ≤ before_year 10000 → Clear s n (j - 1) → names s (date_of j) ≡ true → first_from s n ≡ Some (date_of j)
from_on s n j h l c e =
    let f : suc (j - 1) ≡ j = omega arith in
    from-skip s n (j - 1) (omega arith) (omega arith) c
    ∙ from-here s (j - 1) (omega arith) (subst (λ (k : ℕ). names s (date_of k) ≡ true) (sym f) e)
    ∙ ap (λ (k : ℕ). Some (date_of k)) f

pub from-none : (s : List ℕ) (n : ℕ) → ((j : ℕ) → n < j → names s (date_of j) ≡ false) → first_from s n ≡ None
unfolding first_from
from-none s n c = among_none s n (before_year 10000 - n) c
