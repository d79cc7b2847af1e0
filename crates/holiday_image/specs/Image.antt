-- A holiday image: its head, the bits of a month, the dates that it names, and what makes it sound. The bytes of an image are a list; its
-- bits are counted from 0, most significant first.
-- Assumes nothing.
use Rattle.std.specs.Prelude.{ℕ, zero, suc, ◌+◌, ◌*◌, ◌-◌, ◌/◌, Bool, true, ◌&&◌, ◌||◌, List, eqb, leb, ltb, length}
use Rattle.bits.specs.Bits.{bits, bit_at}
use Rattle.calendar.specs.Calendar.{leap, month_length}
use Rattle.calendar.specs.declared.Date.{Date}

-- the head: first year 14 bits, years 8, school flag 1, unknown flag 1
unfoldable pub first_year : List ℕ → ℕ
first_year s = bits s 0 14

unfoldable pub year_count : List ℕ → ℕ
year_count s = bits s 14 8

unfoldable pub school_flag : List ℕ → ℕ
school_flag s = bits s 22 1

unfoldable pub unknown_flag : List ℕ → ℕ
unknown_flag s = bits s 23 1

-- then 372 bits a year, 31 a month: where month m of year y begins
abbrev pub month_bit : ℕ → ℕ → ℕ → ℕ
month_bit first y m = 24 + 372 * (y - first) + 31 * (m - 1)

-- y is one of the image's years
unfoldable pub has_year : List ℕ → ℕ → Bool
has_year s y = leb (first_year s) y && ltb y (first_year s + year_count s)

-- the dates that an image names: those of its years whose bit is set, the first of a month's bits being day 1
unfoldable pub names : List ℕ → Date → Bool
names s d = has_year s d.year && eqb (bit_at s (month_bit (first_year s) d.year d.month + (d.day - 1))) 1

-- first year 1900 to 9999, years 0 to 200, the last at most 9999 (where there is no year this asks nothing more)
unfoldable pub years_fit : ℕ → ℕ → Bool
years_fit first count = leb 1900 first && leb first 9999 && leb count 200 && leb (first + count - 1) 9999

-- where the last year ends
abbrev pub end_bit : ℕ → ℕ
end_bit count = 24 + 372 * count

unfoldable pub exact_length : List ℕ → Bool
exact_length s = eqb (length s) ((end_bit (year_count s) + 7) / 8)

unfoldable pub zero_fill : List ℕ → Bool
zero_fill s = eqb (bits s (end_bit (year_count s)) (8 * length s - end_bit (year_count s))) 0

-- p of each of the numbers 1 to n
unfoldable pub every : (ℕ → Bool) → ℕ → Bool
every p zero = true
every p (suc n) = every p n && p (suc n)

-- what stands behind the last day of a month whose bits begin at a place
unfoldable pub behind_month : List ℕ → ℕ → Bool → ℕ → ℕ
behind_month s at l m = bits s (at + month_length l m) (31 - month_length l m)

-- 0 where no such day exists: in month m of year y, in year y, in the k-th year, in all years
unfoldable pub real_month : List ℕ → ℕ → ℕ → Bool
real_month s y m = eqb (behind_month s (month_bit (first_year s) y m) (leap y) m) 0

unfoldable pub real_year : List ℕ → ℕ → Bool
real_year s y = every (real_month s y) 12

unfoldable pub real_kth : List ℕ → ℕ → Bool
real_kth s k = real_year s (first_year s + k - 1)

unfoldable pub real_days : List ℕ → Bool
real_days s = every (real_kth s) (year_count s)

-- an image is sound, alone: empty, which is no holidays, or all of the above
unfoldable pub sound : List ℕ → Bool
sound s = eqb (length s) 0 || (years_fit (first_year s) (year_count s) && exact_length s && zero_fill s && real_days s)

-- the slot that an image's flags ask for: 0 public, 1 public unknown, 2 school, 3 school unknown
unfoldable pub slot_of : List ℕ → ℕ
slot_of s = 2 * school_flag s + unknown_flag s

-- an image is sound in a slot: empty, or sound with the flags of the slot
unfoldable pub sound_in : List ℕ → ℕ → Bool
sound_in s slot = eqb (length s) 0 || (sound s && eqb (slot_of s) slot)
