-- What the functions on an image ask of it and give.
-- Assumes nothing.
use Rattle.std.specs.Prelude.{ℕ, ◌+◌, ◌*◌, ◌≤◌, ◌<◌, List, ◌≡◌, length}
use Rattle.holiday_image.specs.declared.Years.{Years}
use Rattle.holiday_image.specs.Image.{first_year, year_count}

-- the years of an image
pub record YearsOf (s : List ℕ) (y : Years) : Type 0 where
  pub first_is : y.first ≡ first_year s
  pub count_is : y.count ≡ year_count s

-- what the head and the length of a sound image that is not empty keep to
pub record Formed (s : List ℕ) : Type 0 where
  pub first_low : 1900 ≤ first_year s
  pub first_high : first_year s ≤ 9999
  pub count_high : year_count s ≤ 200
  pub last_high : first_year s + year_count s ≤ 10000
  pub bits_low : 24 + 372 * year_count s ≤ 8 * length s
  pub bits_high : 8 * length s ≤ 31 + 372 * year_count s

-- month m of year y is one that the image has bits for
pub record InYears (s : List ℕ) (y m : ℕ) : Type 0 where
  pub from : first_year s ≤ y
  pub upto : y < first_year s + year_count s
  pub month_low : 1 ≤ m
  pub month_high : m ≤ 12
