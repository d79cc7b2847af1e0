-- A sound image names only days that there are.
-- Assumes nothing.
use mathlib.Core.Path.{◌≡◌, sym, subst}
use mathlib.Core.Bool.{Bool, true}
use mathlib.Core.List.{List}
use Prim.Native.Nat.{ℕ, zero, suc, ◌+◌, ◌-◌, ◌≤◌, ◌<◌}
use native.Mathlib.Decide.{ℕ_discrete}
use native.Mathlib.Omega.{arith}
use lib.Dec.{eqb}
use borrow.Author.Tests.{eqb-true}
use Rattle.bits.specs.Bits.{bits, bit_at}
use Rattle.calendar.specs.Calendar.{leap, month_length}
use Rattle.calendar.specs.declared.Date.{Date}
use Rattle.holiday_image.specs.Image.{first_year, year_count, month_bit, has_year, names, behind_month, real_month, real_year, real_kth, real_days, sound}
use Rattle.holiday_image.specs.Parts.{Formed}
use Rattle.holiday_image.proofs.Tests.{and_left, and_right, split, every-at}
use Rattle.holiday_image.proofs.Laws.{sound-real, in-formed, in-years, has-from, has-upto}

-- each bit of a run that makes 0 is 0
pub zero_bit : (s : List ℕ) (at w i : ℕ) → bits s at w ≡ 0 → i < w → bit_at s (at + i) ≡ 0
unfolding bits
zero_bit s at zero i e h = absurd (omega arith)
zero_bit s at (suc w) i e h = by_cases (ℕ_discrete i w) (zero_bit s at w i)
  where
    by_cases : Dec (i ≡ w) → (bits s at w ≡ 0 → i < w → bit_at s (at + i) ≡ 0) → bit_at s (at + i) ≡ 0
    by_cases (yes f) r = let g : bit_at s (at + w) ≡ 0 = omega arith in subst (λ (k : ℕ). bit_at s (at + k) ≡ 0) (sym f) g
    by_cases (no f) r = r (omega arith) (omega arith)

month-real : (s : List ℕ) (y m : ℕ) → real_year s y ≡ true → 1 ≤ m → m ≤ 12 → behind_month s (month_bit (first_year s) y m) (leap y) m ≡ 0
unfolding real_year real_month
month-real s y m e l h = eqb-true (behind_month s (month_bit (first_year s) y m) (leap y) m) 0 (every-at (real_month s y) 12 m l h e)

year-real : (s : List ℕ) (y : ℕ) → real_days s ≡ true → first_year s ≤ y → y < first_year s + year_count s → real_year s y ≡ true
unfolding real_days real_kth
year-real s y e l h =
    let g : first_year s + (y - first_year s + 1) - 1 ≡ y = omega arith in
    subst (λ (k : ℕ). real_year s k ≡ true) g (every-at (real_kth s) (year_count s) (y - first_year s + 1) (omega arith) (omega arith) e)

-- behind the last day of a month no bit is set
behind : (s : List ℕ) (at : ℕ) (l : Bool) (m k : ℕ) → behind_month s at l m ≡ 0 → month_length l m ≤ k → k < 31 → bit_at s (at + k) ≡ 0
unfolding behind_month
behind s at l m k e h j =
    let g : at + month_length l m + (k - month_length l m) ≡ at + k = omega arith in
    subst (λ (i : ℕ). bit_at s i ≡ 0) g (zero_bit s (at + month_length l m) (31 - month_length l m) (k - month_length l m) e (omega arith))

named-year : (s : List ℕ) (d : Date) → names s d ≡ true → has_year s d.year ≡ true
unfolding names
named-year s d e = and_left (has_year s d.year) (eqb (bit_at s (month_bit (first_year s) d.year d.month + (d.day - 1))) 1) e

named-bit : (s : List ℕ) (d : Date) → names s d ≡ true → bit_at s (month_bit (first_year s) d.year d.month + (d.day - 1)) ≡ 1
unfolding names
named-bit s d e =
    eqb-true (bit_at s (month_bit (first_year s) d.year d.month + (d.day - 1))) 1
    (and_right (has_year s d.year) (eqb (bit_at s (month_bit (first_year s) d.year d.month + (d.day - 1))) 1) e)

pub named-real : (s : List ℕ) (d : Date) → sound s ≡ true → names s d ≡ true → 1 ≤ d.month → d.month ≤ 12 → 1 ≤ d.day → d.day ≤ 31
    → d.day ≤ month_length (leap d.year) d.month
named-real s d e n l h i j = split (month_length (leap d.year) d.month) d.day (λ k. absurd (omega (arith, zero k, named-bit s d n))) (λ k. k)
  where
    here : has_year s d.year ≡ true
    here = named-year s d n

    room : Formed s
    room = in-formed s d.year d.month e (in-years s d.year d.month here l h)

    real : real_days s ≡ true
    real = sound-real s (omega (arith, room.bits_low)) e

    zero : month_length (leap d.year) d.month < d.day → bit_at s (month_bit (first_year s) d.year d.month + (d.day - 1)) ≡ 0
    zero k =
        behind s (month_bit (first_year s) d.year d.month) (leap d.year) d.month (d.day - 1)
        (month-real s d.year d.month (year-real s d.year real (has-from s d.year here) (has-upto s d.year here)) l h)
        (omega arith)
        (omega arith)
