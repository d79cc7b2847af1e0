-- The public answers about holiday images. An image that breaks its rules is refused by 5, a month or a date that does not exist by 7.
-- Assumes nothing.
use Rattle.std.specs.Prelude.{ℕ, zero, suc, ◌+◌, ◌-◌, cond, List, Option, Some, None, Result, Ok}
use Rattle.refusals.specs.Numbers.{refused}
use Rattle.refusals.specs.declared.Cause.TheVariants.{BadHolidays}
use Rattle.refusals.specs.declared.Refusal.{Refusal}
use Rattle.calendar.specs.Calendar.{before_year, day_number, date_of}
use Rattle.calendar.specs.declared.Date.{Date}
use Rattle.dates.specs.Exists.{is_month, is_date}
use Rattle.dates.specs.Answers.{answered}
use Rattle.images.specs.Images.{Holidays}
use Rattle.holiday_image.specs.Image.{names, sound, sound_in}

-- an image by itself
unfoldable pub check_answer : List ℕ → Result (Unit {0}) Refusal
check_answer s = cond (sound s) (Ok tt) (refused BadHolidays 0)

-- an image in its slot
unfoldable pub slot_answer : List ℕ → ℕ → Result (Unit {0}) Refusal
slot_answer s slot = cond (sound_in s slot) (Ok tt) (refused BadHolidays slot)

-- the four images in their slots: the lowest that is not sound there is named
unfoldable pub slots_answer : Holidays → Result (Unit {0}) Refusal
slots_answer h =
    cond (sound_in h.public 0)
    (cond (sound_in h.public_unknown 1)
    (cond (sound_in h.school 2) (cond (sound_in h.school_unknown 3) (Ok tt) (refused BadHolidays 3)) (refused BadHolidays 2))
    (refused BadHolidays 1))
    (refused BadHolidays 0)

-- how many of the days 1 to d of month m of year y are holidays
unfoldable pub count_to : List ℕ → ℕ → ℕ → ℕ → ℕ
count_to s y m zero = 0
count_to s y m (suc d) = count_to s y m d + cond (names s (record { year = y; month = m; day = suc d })) 1 0

-- the count of holidays in a month
unfoldable pub count_answer : List ℕ → ℕ → ℕ → Result ℕ Refusal
count_answer s y m = cond (sound s) (answered (is_month y m) (count_to s y m 31)) (refused BadHolidays 0)

-- the first holiday among the k days after day n
unfoldable pub first_among : List ℕ → ℕ → ℕ → Option Date
first_among s n zero = None
first_among s n (suc k) = cond (names s (date_of (suc n))) (Some (date_of (suc n))) (first_among s (suc n) k)

-- the first holiday after day n: no image has the year 10000
unfoldable pub first_from : List ℕ → ℕ → Option Date
first_from s n = first_among s n (before_year 10000 - n)

-- the first holiday after a date
unfoldable pub first_answer : List ℕ → Date → Result (Option Date) Refusal
first_answer s d = cond (sound s) (answered (is_date d) (first_from s (day_number d))) (refused BadHolidays 0)
