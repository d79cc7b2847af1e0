-- Laws of holiday images over plain lists and numbers: what the head's numbers are, what a sound image has room for, and how the judgement
-- of an image falls into its parts.
-- Assumes nothing.
use mathlib.Core.Path.{◌≡◌, refl, ap, sym, ◌∙◌}
use mathlib.Core.Bool.{Bool, true, false, ◌&&◌, ◌||◌}
use mathlib.Core.List.{List, [], ◌∷◌}
use Prim.Native.Nat.{ℕ, zero, suc, ◌+◌, ◌*◌, ◌-◌, ◌/◌, ◌%◌, ◌≤◌, ◌<◌}
use native.Mathlib.Nat.{zero-div, add-zero}
use native.Mathlib.Omega.{arith}
use lib.Dec.{eqb, leb, ltb}
use lib.ListN.{length}
use borrow.Author.Tests.{eq-eqb, ne_eqb, eqb-true, leb-true, ltb-true}
use Rattle.bits.specs.Bits.{bits, bit_at}
use Rattle.bits.proofs.BitsLaws.{bits-lt, bits-add}
use Rattle.calendar.specs.Calendar.{leap, month_length}
use Rattle.calendar.specs.declared.Date.{Date}
use Rattle.holiday_image.specs.declared.Years.{Years}
use Rattle.holiday_image.specs.Image.{first_year, year_count, school_flag, unknown_flag, month_bit, has_year, names, years_fit, exact_length, zero_fill, every, behind_month, real_month, real_year, real_kth, real_days, sound, slot_of, sound_in}
use Rattle.holiday_image.specs.Parts.{YearsOf, Formed, InYears}
use Rattle.holiday_image.proofs.Tests.{and_left, and_right, split, every-no}

-- the head: its first 22 bits hold both numbers of years
count-lt : (s : List ℕ) → year_count s < 256
unfolding year_count
count-lt s = bits-lt s 14 8

head-is : (s : List ℕ) → bits s 0 22 ≡ first_year s * 256 + year_count s
unfolding first_year year_count
head-is s = bits-add s 0 14 8

pub years-made : (s : List ℕ) (h : ℕ) → h ≡ bits s 0 22 → YearsOf s (record { first = h / 256; count = h % 256 })
years-made s h e = record { first_is = omega (arith, head-is s, count-lt s); count_is = omega (arith, head-is s, count-lt s) }

-- an empty image has no bit set
nil-bits : (at w : ℕ) → bits [] at w ≡ 0
unfolding bits
nil-bits at zero = refl
nil-bits at (suc w) = rw (nil-bits at w, zero-div)

empty-bits : (s : List ℕ) (at w : ℕ) → length s ≡ 0 → bits s at w ≡ 0
empty-bits [] at w h = nil-bits at w
empty-bits (b ∷ s) at w h = absurd (omega arith)

empty-first : (s : List ℕ) → length s ≡ 0 → first_year s ≡ 0
unfolding first_year
empty-first s h = empty-bits s 0 14 h

empty-count : (s : List ℕ) → length s ≡ 0 → year_count s ≡ 0
unfolding year_count
empty-count s h = empty-bits s 14 8 h

pub years-none : (s : List ℕ) → length s ≡ 0 → YearsOf s (record { first = 0; count = 0 })
years-none s h = record { first_is = sym (empty-first s h); count_is = sym (empty-count s h) }

-- the two flags make the slot's number
pub slot_is : (s : List ℕ) → bits s 22 2 ≡ slot_of s
unfolding slot_of school_flag unknown_flag
slot_is s = omega (arith, bits-add s 22 1 1)

record Fitting (f n : ℕ) : Type 0 where
  low : 1900 ≤ f
  high : f ≤ 9999
  few : n ≤ 200
  last : f + n - 1 ≤ 9999

fitting : (f n : ℕ) → years_fit f n ≡ true → Fitting f n
unfolding years_fit
fitting f n e =
    let a : leb 1900 f && leb f 9999 && leb n 200 ≡ true = and_left (leb 1900 f && leb f 9999 && leb n 200) (leb (f + n - 1) 9999) e in
    let b : leb 1900 f && leb f 9999 ≡ true = and_left (leb 1900 f && leb f 9999) (leb n 200) a in
    record {
      low = leb-true 1900 f (and_left (leb 1900 f) (leb f 9999) b);
      high = leb-true f 9999 (and_right (leb 1900 f) (leb f 9999) b);
      few = leb-true n 200 (and_right (leb 1900 f && leb f 9999) (leb n 200) a);
      last = leb-true (f + n - 1) 9999 (and_right (leb 1900 f && leb f 9999 && leb n 200) (leb (f + n - 1) 9999) e);
    }

-- form, fill and days are judged in turn

abbrev form_of : List ℕ → Bool
form_of s = years_fit (first_year s) (year_count s) && exact_length s

bytes-is : (s : List ℕ) → exact_length s ≡ true → length s ≡ (24 + 372 * year_count s + 7) / 8
unfolding exact_length
bytes-is s e = eqb-true (length s) ((24 + 372 * year_count s + 7) / 8) e

pub formed : (s : List ℕ) → form_of s ≡ true → Formed s
formed s e =
    let f = fitting (first_year s) (year_count s) (and_left (years_fit (first_year s) (year_count s)) (exact_length s) e) in
    let b = bytes-is s (and_right (years_fit (first_year s) (year_count s)) (exact_length s) e) in
    record {
      first_low = f.low;
      first_high = f.high;
      count_high = f.few;
      last_high = omega arith;
      bits_low = omega arith;
      bits_high = omega arith;
    }

fit-said : (s : List ℕ) (ys : Years) → YearsOf s ys → years_fit ys.first ys.count ≡ years_fit (first_year s) (year_count s)
fit-said s ys e = ap (λ (f : ℕ). years_fit f ys.count) e.first_is ∙ ap (years_fit (first_year s)) e.count_is

same_length : (s : List ℕ) (n : ℕ) → n ≡ year_count s → eqb (length s) ((24 + 372 * n + 7) / 8) ≡ exact_length s
unfolding exact_length
same_length s n h = rw h

pub form-yes : (s : List ℕ) (ys : Years) (b : Bool) → YearsOf s ys → b ≡ years_fit ys.first ys.count → b ≡ true
    → eqb (length s) ((24 + 372 * ys.count + 7) / 8) ≡ form_of s
form-yes s ys b y f e = rw (← fit-said s ys y, ← f, e) (same_length s ys.count y.count_is)

pub fill-said : (s : List ℕ) (n r : ℕ) → n ≡ year_count s → r ≡ bits s (24 + 372 * n) (8 * length s - (24 + 372 * n)) → eqb r 0 ≡ zero_fill s
unfolding zero_fill
fill-said s n r h e = rw (e, h)

pub fill_none : (s : List ℕ) (n : ℕ) → n ≡ year_count s → 8 * length s ≤ 24 + 372 * n → true ≡ zero_fill s
unfolding zero_fill bits
fill_none s n h l = let g : 8 * length s - (24 + 372 * year_count s) ≡ 0 = omega arith in rw g

short-length : (s : List ℕ) → length s < 3 → exact_length s ≡ false
unfolding exact_length
short-length s h = ne_eqb (length s) ((24 + 372 * year_count s + 7) / 8) (λ e. omega arith)

not-exact : (a y z r : Bool) → a ≡ a || (y && false && z && r)
not-exact true y z r = refl
not-exact false true z r = refl
not-exact false false z r = refl

-- an image of less than three bytes is sound only if it is empty
pub short : (s : List ℕ) → length s < 3 → eqb (length s) 0 ≡ sound s
unfolding sound
short s h = rw (short-length s h) (not-exact (eqb (length s) 0) (years_fit (first_year s) (year_count s)) (zero_fill s) (real_days s))

module _ (s : List ℕ) (h : 0 < length s) where
  sound-rest : sound s ≡ (form_of s && zero_fill s && real_days s)
  unfolding sound
  sound-rest = rw (ne_eqb (length s) 0 (λ e. omega arith))

  pub formless : form_of s ≡ false → false ≡ sound s
  formless e = rw (sound-rest, e)

  pub unfilled : form_of s ≡ true → zero_fill s ≡ false → false ≡ sound s
  unfilled e f = rw (sound-rest, e, f)

  pub judged : form_of s ≡ true → zero_fill s ≡ true → real_days s ≡ sound s
  judged e f = rw (sound-rest, e, f)

  pub sound-formed : sound s ≡ true → Formed s
  sound-formed e =
      formed s (and_left (form_of s) (zero_fill s) (and_left (form_of s && zero_fill s) (real_days s) (sym sound-rest ∙ e)))

  pub sound-real : sound s ≡ true → real_days s ≡ true
  sound-real e = and_right (form_of s && zero_fill s) (real_days s) (sym sound-rest ∙ e)

  pub slot-no : sound s ≡ false → (slot : ℕ) → false ≡ sound_in s slot
  unfolding sound_in
  slot-no e slot = rw (ne_eqb (length s) 0 (λ f. omega arith), e)

  pub slot-yes : sound s ≡ true → (slot : ℕ) → eqb (slot_of s) slot ≡ sound_in s slot
  unfolding sound_in
  slot-yes e slot = rw (ne_eqb (length s) 0 (λ f. omega arith), e)

pub some-byte : (s : List ℕ) → eqb (length s) 0 ≡ false → 0 < length s
some-byte [] e = absurd (cc)
some-byte (b ∷ s) e = omega arith

pub slot-empty : (s : List ℕ) → length s ≡ 0 → (slot : ℕ) → true ≡ sound_in s slot
unfolding sound_in
slot-empty s h slot = rw (eq-eqb (length s) 0 h)

-- a sound image that is not empty has a head
pub enough : (s : List ℕ) → sound s ≡ true → 0 < length s → 3 ≤ length s
enough s e h = omega (arith, sound-formed s h e)

-- the years of a sound image end by 10000
pub sum-high : (s : List ℕ) → sound s ≡ true → first_year s + year_count s ≤ 10000
sum-high s e = split 0 (length s) (λ h. omega (arith, sound-formed s h e)) (λ h. omega (arith, empty-first s (omega arith), empty-count s (omega arith)))

-- an image with a year is not empty
pub years-formed : (s : List ℕ) → sound s ≡ true → 0 < year_count s → Formed s
years-formed s e h = split 0 (length s) (λ l. sound-formed s l e) (λ l. absurd (omega (arith, empty-count s (omega arith))))

-- a year is among an image's years, by the head's numbers

pub has-said : (s : List ℕ) (ys : Years) (y : ℕ) → YearsOf s ys → (leb ys.first y && ltb y (ys.first + ys.count)) ≡ has_year s y
unfolding has_year
has-said s ys y e =
    ap (λ (f : ℕ). leb f y && ltb y (f + ys.count)) e.first_is
    ∙ ap (λ (n : ℕ). leb (first_year s) y && ltb y (first_year s + n)) e.count_is

pub has-from : (s : List ℕ) (y : ℕ) → has_year s y ≡ true → first_year s ≤ y
unfolding has_year
has-from s y e = leb-true (first_year s) y (and_left (leb (first_year s) y) (ltb y (first_year s + year_count s)) e)

pub has-upto : (s : List ℕ) (y : ℕ) → has_year s y ≡ true → y < first_year s + year_count s
unfolding has_year
has-upto s y e = ltb-true y (first_year s + year_count s) (and_right (leb (first_year s) y) (ltb y (first_year s + year_count s)) e)

pub in-years : (s : List ℕ) (y m : ℕ) → has_year s y ≡ true → 1 ≤ m → m ≤ 12 → InYears s y m
in-years s y m e l h = record { from = has-from s y e; upto = has-upto s y e; month_low = l; month_high = h }

pub in-formed : (s : List ℕ) (y m : ℕ) → sound s ≡ true → InYears s y m → Formed s
in-formed s y m e i = years-formed s e (omega arith)

-- one bit is a number of one bit
pub bits-one : (s : List ℕ) (at : ℕ) → bits s at 1 ≡ bit_at s at
unfolding bits
bits-one s at = rw (add-zero at) (omega arith)

pub named_in : (s : List ℕ) (d : Date) (at : ℕ) → has_year s d.year ≡ true → at ≡ month_bit (first_year s) d.year d.month + (d.day - 1)
    → eqb (bits s at 1) 1 ≡ names s d
unfolding names
named_in s d at e f = rw (e, bits-one s at, f)

pub named-out : (s : List ℕ) (d : Date) → has_year s d.year ≡ false → false ≡ names s d
unfolding names
named-out s d e = rw e

-- the sum that a year is held against, from the head's numbers
pub sum_said : (s : List ℕ) (ys : Years) → YearsOf s ys → sound s ≡ true → ys.first + ys.count ≤ 10000
sum_said s ys y e = omega (arith, sum-high s e)

pub has-in-years : (s : List ℕ) (ys : Years) (y m : ℕ) (b : Bool) → YearsOf s ys → b ≡ (leb ys.first y && ltb y (ys.first + ys.count)) → b ≡ true
    → 1 ≤ m → m ≤ 12 → InYears s y m
has-in-years s ys y m b e f g l h = in-years s y m (sym (has-said s ys y e) ∙ (sym f ∙ g)) l h

pub contains-in : (s : List ℕ) (ys : Years) (d : Date) (b : Bool) (k r : ℕ) → YearsOf s ys
    → b ≡ (leb ys.first d.year && ltb d.year (ys.first + ys.count)) → b ≡ true
    → k ≡ month_bit ys.first d.year d.month → r ≡ bits s (k + (d.day - 1)) 1 → eqb r 1 ≡ names s d
contains-in s ys d b k r y e g h i =
    ap (λ (v : ℕ). eqb v 1) i
    ∙ named_in s d (k + (d.day - 1)) (sym (has-said s ys d.year y) ∙ (sym e ∙ g))
    (ap (λ (v : ℕ). v + (d.day - 1)) (h ∙ ap (λ (v : ℕ). month_bit v d.year d.month) y.first_is))

pub contains-out : (s : List ℕ) (ys : Years) (d : Date) (b : Bool) → YearsOf s ys
    → b ≡ (leb ys.first d.year && ltb d.year (ys.first + ys.count)) → b ≡ false → false ≡ names s d
contains-out s ys d b y e g = named-out s d (sym (has-said s ys d.year y) ∙ (sym e ∙ g))

-- the tests of a month and of a year, from what their parts give
pub behind-said : (s : List ℕ) (at : ℕ) (l : Bool) (m k r : ℕ) → k ≡ month_length l m → r ≡ bits s (at + k) (31 - k) → eqb r 0 ≡ eqb (behind_month s at l m) 0
unfolding behind_month
behind-said s at l m k r h e = rw (e, h)

pub behind-none : (s : List ℕ) (at : ℕ) (l : Bool) (m k : ℕ) → k ≡ month_length l m → 31 ≤ k → true ≡ eqb (behind_month s at l m) 0
unfolding behind_month bits
behind-none s at l m k h e = let g : 31 - month_length l m ≡ 0 = omega arith in rw g

pub month-said : (s : List ℕ) (y m at f : ℕ) (l r : Bool) → at ≡ month_bit f y m → f ≡ first_year s → l ≡ leap y
    → r ≡ eqb (behind_month s at l m) 0 → r ≡ real_month s y m
unfolding real_month
month-said s y m at f l r e g h i = rw (i, e, g, h)

pub year-no : (s : List ℕ) (y m : ℕ) → 1 ≤ m → m ≤ 12 → real_month s y m ≡ false → false ≡ real_year s y
unfolding real_year
year-no s y m l h e = sym (every-no (real_month s y) 12 m l h e)

pub year-yes : (s : List ℕ) (y m : ℕ) → m ≤ 12 → 12 ≤ m → every (real_month s y) m ≡ true → true ≡ real_year s y
unfolding real_year
year-yes s y m l h e = let g : m ≡ 12 = omega arith in sym (rw g at e)

pub kth-said : (s : List ℕ) (y f : ℕ) (r : Bool) → f ≡ first_year s → f ≤ y → r ≡ real_year s y → r ≡ real_kth s (y - f + 1)
unfolding real_kth
kth-said s y f r e l h = let g : first_year s + (y - f + 1) - 1 ≡ y = omega arith in rw g h

pub days-no : (s : List ℕ) (k n : ℕ) → n ≡ year_count s → 1 ≤ k → k ≤ n → real_kth s k ≡ false → false ≡ real_days s
unfolding real_days
days-no s k n g l h e = sym (every-no (real_kth s) (year_count s) k l (omega arith) e)

pub days-yes : (s : List ℕ) (k n : ℕ) → n ≡ year_count s → k ≤ n → n ≤ k → every (real_kth s) k ≡ true → true ≡ real_days s
unfolding real_days
days-yes s k n g l h e = let f : k ≡ year_count s = omega arith in sym (rw f at e)
