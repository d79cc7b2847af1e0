-- The days before a year, directly: 365 for each year, and one more for each leap year that has gone by. So the calendar repeats after 400 years.
-- Assumes nothing.
use mathlib.Core.Path.{◌≡◌, refl, ap, subst₂}
use Prim.Native.Nat.{ℕ, zero, suc, ◌+◌, ◌*◌, ◌-◌, ◌/◌, ◌%◌, ◌≤◌, ◌<◌}
use native.Mathlib.Decide.{ℕ_discrete}
use native.Mathlib.Omega.{arith}
use borrow.Author.Tests.{eq-eqb, ne_eqb}
use Rattle.calendar.specs.Calendar.{leap, before_year, year_length}
use Rattle.calendar.specs.Parts.{Settled, InCycle}
use Rattle.calendar.proofs.Days.{year-suc}

-- the years below y that a number divides. Each is shut, so that omega takes it for an unknown
fours : ℕ → ℕ
fours y = (y + 3) / 4

hundreds : ℕ → ℕ
hundreds y = (y + 99) / 100

fourhundreds : ℕ → ℕ
fourhundreds y = (y + 399) / 400

fours-more : (y : ℕ) → y % 4 ≡ 0 → fours (suc y) ≡ fours y + 1
unfolding fours
fours-more y h = omega arith

fours-same : (y : ℕ) → (y % 4 ≡ 0 → ⊥) → fours (suc y) ≡ fours y
unfolding fours
fours-same y h = omega arith

hundreds-more : (y : ℕ) → y % 100 ≡ 0 → hundreds (suc y) ≡ hundreds y + 1
unfolding hundreds
hundreds-more y h = omega arith

hundreds-same : (y : ℕ) → (y % 100 ≡ 0 → ⊥) → hundreds (suc y) ≡ hundreds y
unfolding hundreds
hundreds-same y h = omega arith

fourhundreds-more : (y : ℕ) → y % 400 ≡ 0 → fourhundreds (suc y) ≡ fourhundreds y + 1
unfolding fourhundreds
fourhundreds-more y h = omega arith

fourhundreds-same : (y : ℕ) → (y % 400 ≡ 0 → ⊥) → fourhundreds (suc y) ≡ fourhundreds y
unfolding fourhundreds
fourhundreds-same y h = omega arith

-- one year more
step : (y : ℕ) → Dec (y % 4 ≡ 0) → Dec (y % 100 ≡ 0) → Dec (y % 400 ≡ 0) →
    fours (suc y) + fourhundreds (suc y) + hundreds y + 365 ≡ fours y + fourhundreds y + hundreds (suc y) + year_length (leap y)
unfolding leap year_length
step y (yes a) (yes b) (yes d) =
    simp (eq-eqb _ _ b, eq-eqb _ _ d) (omega (arith, fours-more y a, hundreds-more y b, fourhundreds-more y d))
step y (yes a) (yes b) (no d) =
    simp (eq-eqb _ _ b, ne_eqb _ _ d) (omega (arith, fours-more y a, hundreds-more y b, fourhundreds-same y d))
step y (yes a) (no b) d =
    simp (ne_eqb _ _ b, eq-eqb _ _ a)
    (omega (arith, fours-more y a, hundreds-same y b, fourhundreds-same y (omega arith)))
step y (no a) b d =
    simp (ne_eqb (y % 100) 0 (omega arith), ne_eqb _ _ a)
    (omega (arith, fours-same y a, hundreds-same y (omega arith), fourhundreds-same y (omega arith)))

none : fours 0 + fourhundreds 0 ≡ hundreds 0
unfolding fours hundreds fourhundreds
none = refl

counted : (y : ℕ) → before_year y + hundreds y ≡ 365 * y + fours y + fourhundreds y
unfolding before_year
counted zero = omega (arith, none)
counted (suc y) =
    omega (arith, counted y, step y (ℕ_discrete (y % 4) 0) (ℕ_discrete (y % 100) 0) (ℕ_discrete (y % 400) 0))

pub directly : (y : ℕ) → before_year y + (y + 99) / 100 ≡ 365 * y + (y + 3) / 4 + (y + 399) / 400
unfolding fours hundreds fourhundreds
directly y = counted y

-- the same, with every fourth century taken out of the centuries
by-century : (y : ℕ) → fourhundreds y ≡ ((y + 99) / 100 + 3) / 4
unfolding fourhundreds
by-century y = omega arith

pub by-centuries : (y : ℕ) → 365 * y + (y + 3) / 4 + ((y + 99) / 100 + 3) / 4 - (y + 99) / 100 ≡ before_year y
unfolding fours hundreds
by-centuries y = omega (arith, counted y, by-century y)

-- 400 years more
fours-cycle : (q k : ℕ) → fours (400 * q + k) ≡ 100 * q + fours k
unfolding fours
fours-cycle q k = omega arith

hundreds-cycle : (q k : ℕ) → hundreds (400 * q + k) ≡ 4 * q + hundreds k
unfolding hundreds
hundreds-cycle q k = omega arith

fourhundreds-cycle : (q k : ℕ) → fourhundreds (400 * q + k) ≡ q + fourhundreds k
unfolding fourhundreds
fourhundreds-cycle q k = omega arith

pub year-cycle : (q k : ℕ) → before_year (400 * q + k) ≡ 146097 * q + before_year k
year-cycle q k =
    omega (arith, counted (400 * q + k), counted k, fours-cycle q k, hundreds-cycle q k, fourhundreds-cycle q k)

-- have the same leap years
leap-cycle : (q k : ℕ) → leap (400 * q + k) ≡ leap k
unfolding leap
leap-cycle q k = rw (by_4, by-100, by-400)
  where
    by_4 : (400 * q + k) % 4 ≡ k % 4
    by_4 = omega arith

    by-100 : (400 * q + k) % 100 ≡ k % 100
    by-100 = omega arith

    by-400 : (400 * q + k) % 400 ≡ k % 400
    by-400 = omega arith

-- and the same days
pub later-cycle : {n y d : ℕ} (q : ℕ) → Settled n y d → Settled (146097 * q + n) (400 * q + y) d
later-cycle {n} {y} {d} q s =
    record { counted = omega (arith, year-cycle q y); low = s.low; high = rw (leap-cycle q y) s.high }

-- four years have 1461 days, but for the centuries: never more
fours_low : (y : ℕ) → y ≤ 4 * fours y
unfolding fours
fours_low y = omega arith

fours-high : (y : ℕ) → 4 * fours y ≤ y + 3
unfolding fours
fours-high y = omega arith

centuries-low : (y : ℕ) → fourhundreds y ≤ hundreds y
unfolding fourhundreds hundreds
centuries-low y = omega arith

quarters-high : (y : ℕ) → 4 * before_year y ≤ 1461 * y + 3
quarters-high y = omega (arith, counted y, fours-high y, centuries-low y)

-- and in a cycle not much less
centuries-high : (y : ℕ) → y ≤ 400 → hundreds y ≤ 4
unfolding hundreds
centuries-high y h = omega arith

quarters-low : (y : ℕ) → y ≤ 400 → 1461 * y ≤ 4 * before_year y + 16
quarters-low y h = omega (arith, counted y, fours_low y, centuries-high y h)

-- 400 years have so many days
no-year : before_year 0 ≡ 0
unfolding before_year
no-year = refl

whole-cycle : before_year 400 ≡ 146097
whole-cycle = omega (arith, year-cycle 1 0, no-year)

-- a year with a day of the cycle behind it is not the last
not-last-year : (y n : ℕ) → y ≤ 400 → n ≤ 146097 → before_year y < n → y < 400
not-last-year y n h k b = by_cases (ℕ_discrete y 400)
  where
    by_cases : Dec (y ≡ 400) → y < 400
    by_cases (yes e) = omega (arith, whole-cycle, ap before_year e)
    by_cases (no f) = omega arith

-- so that the year counted by fours is the one before a day's own, where the next has begun
pub in-next : (y n : ℕ) → (n - 1) * 4 < 1461 * y + 1461 → y < 400 → n ≤ 146097 → before_year (y + 1) < n → InCycle n (y + 1) (n - before_year (y + 1))
in-next y n k h i b =
    record {
      settled = record { counted = omega arith; low = omega arith; high = omega (arith, quarters-low (y + 1 + 1) l, year-suc (y + 1)) };
      within = omega (arith, l);
    }
  where
    l : y + 1 + 1 ≤ 400
    l = omega (arith, not-last-year (y + 1) n (omega arith) i b)

-- and its own where it has not
pub in-same : (y n : ℕ) → 1 ≤ n → 1461 * y ≤ (n - 1) * 4 → y < 400 → n ≤ before_year (y + 1) → InCycle n y (n - before_year y)
in-same y n l k h b =
    record {
      settled = record { counted = omega (arith, begun); low = omega (arith, begun); high = omega (arith, year-suc y, begun) };
      within = h;
    }
  where
    begun : before_year y < n
    begun = omega (arith, quarters-high y)

-- a day counted on from a year's start: n days from the start of that year's cycle, by whole cycles and a day of one
module _ (y rest n z d : ℕ) (e : n + 1 ≡ before_year (y % 400) + rest) where
  parts : 400 * (y / 400) + y % 400 ≡ y
  parts = omega arith

  number : 146097 * (y / 400 + n / 146097) + (n % 146097 + 1) ≡ before_year y + rest
  number = omega (arith, year-cycle (y / 400) (y % 400), ap before_year parts)

  year : 400 * (y / 400 + n / 146097) + z ≡ y - y % 400 + n / 146097 * 400 + z
  year = omega arith

  pub counted-on : InCycle (n % 146097 + 1) z d → Settled (before_year y + rest) (y - y % 400 + n / 146097 * 400 + z) d
  counted-on s =
      subst₂ (λ (k x : ℕ). Settled k x d) number year (later-cycle (y / 400 + n / 146097) s.settled)
