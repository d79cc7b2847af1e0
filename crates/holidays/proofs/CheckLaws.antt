-- What the check of an image says of it, and that where it refuses, so does what begins with it.
-- Assumes nothing.
use Rattle.std.proofs.Common.{◌≡◌, ℕ, List, Bool, true, false, cond, refl}
use Rattle.std.specs.Prelude.{Result, Ok, Err}
use Rattle.refusals.specs.Numbers.{number, refused}
use Rattle.refusals.specs.declared.Cause.TheVariants.{BadHolidays}
use Rattle.refusals.specs.declared.Refusal.{Refusal}
use Rattle.holiday_image.specs.Image.{sound, sound_in}
use Rattle.images.specs.Images.{Holidays}
use Rattle.holidays.specs.Answers.{check_answer, slot_answer, slots_answer}

abbrev judged : Bool → ℕ → Result (Unit {0}) Refusal
judged b k = cond b (Ok tt) (refused BadHolidays k)

judged-ok : (b : Bool) (k : ℕ) (u : Unit {0}) → judged b k ≡ Ok u → b ≡ true
judged-ok true k u h = refl
judged-ok false k u h = absurd (cc)

judged-err : {A : Type 0} (b : Bool) (k : ℕ) (x : Result A Refusal) (r : Refusal) → judged b k ≡ Err r → Err r ≡ cond b x (refused BadHolidays k)
judged-err true k x r h = absurd (cc)
judged-err false k x r h = cc

pub check-refused : {A : Type 0} (s : List ℕ) (x : Result A Refusal) (r : Refusal) → check_answer s ≡ Err r → Err r ≡ cond (sound s) x (refused BadHolidays 0)
unfolding check_answer
check-refused s x r h = judged-err (sound s) 0 x r h

pub slot-passed : (s : List ℕ) (k : ℕ) (u : Unit {0}) → slot_answer s k ≡ Ok u → sound_in s k ≡ true
unfolding slot_answer
slot-passed s k u h = judged-ok (sound_in s k) k u h

pub slot-refused : (s : List ℕ) (k : ℕ) (x : Result (Unit {0}) Refusal) (r : Refusal) → slot_answer s k ≡ Err r → Err r ≡ cond (sound_in s k) x (refused BadHolidays k)
unfolding slot_answer
slot-refused s k x r h = judged-err (sound_in s k) k x r h

-- a refused slot has the number 5
pub slot-five : (h : Holidays) (f : Refusal) → slots_answer h ≡ Err f → number f.cause ≡ 5
unfolding slots_answer
slot-five h f e = by (sound_in h.public 0) (sound_in h.public_unknown 1) (sound_in h.school 2) (sound_in h.school_unknown 3) e
  where
    by : (a b c d : Bool) → cond a (cond b (cond c (judged d 3) (refused BadHolidays 2)) (refused BadHolidays 1)) (refused BadHolidays 0) ≡ Err f → number f.cause ≡ 5
    by true true true true g = absurd (cc)
    by true true true false g = cc
    by true true false d g = cc
    by true false c d g = cc
    by false b c d g = cc
