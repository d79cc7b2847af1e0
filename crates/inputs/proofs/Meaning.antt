-- Inputs are accepted exactly if the rules, the holidays and the events each are; and then they are what an evaluation asks for.
use mathlib.Core.Path.{◌≡◌, refl, sym, ap, ◌∙◌}
use mathlib.Core.Bool.{Bool, true, false, cond, ◌&&◌, ◌||◌}
use mathlib.Core.List.{List, [], ◌∷◌}
use Prim.Native.Nat.{ℕ, ◌+◌, ◌≤◌}
use native.Mathlib.Omega.{arith}
use lib.Dec.{eqb}
use lib.ListN.{length}
use Rattle.std.specs.Prelude.{Result, Ok, Err}
use Rattle.refusals.specs.Numbers.{number, refused}
use Rattle.refusals.specs.declared.Cause.TheVariants.{BadHolidays, BadEvent}
use Rattle.refusals.specs.declared.Refusal.{Refusal}
use Rattle.rules.specs.declared.Sheet.{Sheet}
use Rattle.bits.specs.Place.{Place, At, Refused}
use Rattle.rule_image.specs.Reading.{reading, sheet_of, sheet_on}
use Rattle.rule_image.specs.Limits.{SheetOk}
use Rattle.rule_image.proofs.LimitLaws.{reading-ok}
use Rattle.holiday_image.specs.Image.{sound, sound_in, slot_of}
use Rattle.holidays.specs.Answers.{slots_answer}
use Rattle.time_filter.specs.Spans.{times}
use Rattle.time_filter.specs.Refusal.{event_time, lowest_bad, event_refusal}
use Rattle.time_filter.specs.declared.Events.{Events}
use Rattle.date_filter.specs.Filter.{Holidays, Sound}
use Rattle.inputs.specs.Inputs.{and_also, beside_rules, inputs_of}
use Rattle.inputs.proofs.StepLaws.{spot, Numbered, reading-place}

pub record Accepted (s : List ℕ) (row : Events) (h : Holidays) : Type 0 where
  pub rules : sheet_on s ≡ Ok (reading s).item
  pub slots : slots_answer h ≡ Ok tt
  pub events : event_refusal row ≡ Ok tt

-- neither of two refuses where both together do not
both-ok : {A B : Type 0} (a : Result A Refusal) (b : Result B Refusal) (x : A) → and_also a b ≡ Ok x → (a ≡ Ok x) × ((y : B) × (b ≡ Ok y))
both-ok (Err f) b x e = absurd (let z : ◌≡◌ {A = ℕ} 0 1 = cc in omega arith)
both-ok (Ok v) (Err f) x e = absurd (let z : ◌≡◌ {A = ℕ} 0 1 = cc in omega arith)
both-ok (Ok v) (Ok y) x e = (e, (y, refl))

-- the sheet of a reading that is not refused is what it read
read-item : (p : Place) (v x : Sheet) → sheet_of p v ≡ Ok x → v ≡ x
read-item (At a) v x e = cc
read-item (Refused c b) v x e = absurd (let z : ◌≡◌ {A = ℕ} 0 1 = cc in omega arith)

-- there is one way to accept
unit-ok : (r : Result (Unit {0}) Refusal) (y : Unit {0}) → r ≡ Ok y → r ≡ Ok tt
unit-ok r y e = e

module _ (s : List ℕ) (row : Events) (h : Holidays) where
  -- no refusal among the three
  pub accepted-in : (x : Sheet) → inputs_of s row h ≡ Ok x → Accepted s row h
  unfolding inputs_of beside_rules
  accepted-in x k =
      let a = both-ok (sheet_on s) (and_also (slots_answer h) (event_refusal row)) x k in
      let b = both-ok (slots_answer h) (event_refusal row) a.1.0 a.1.1 in
      let i : (reading s).item ≡ x = read-item (reading s).place (reading s).item x a.0 in
      record { rules = a.0 ∙ ap Ok (sym i); slots = unit-ok _ _ b.0; events = unit-ok _ _ b.1.1 }

  -- and then the sheet is the one read
  pub accepted-out : Accepted s row h → inputs_of s row h ≡ Ok (reading s).item
  unfolding inputs_of beside_rules
  accepted-out a = rw (a.rules, a.slots, a.events)

  -- the sheet of accepted inputs keeps its limits
  pub sheet-ok : (x : Sheet) → inputs_of s row h ≡ Ok x → SheetOk x
  unfolding inputs_of
  sheet-ok x k =
      let a = both-ok (sheet_on s) (beside_rules row h) x k in
      rw (← read-item (reading s).place (reading s).item x a.0) (reading-ok s)

-- sound in a slot is sound
slot-alone : (s : List ℕ) (k : ℕ) → sound_in s k ≡ true → sound s ≡ true
unfolding sound_in sound
slot-alone s k e = by (eqb (length s) 0) _ (eqb (slot_of s) k) e
  where
    by : (a b c : Bool) → a || ((a || b) && c) ≡ true → a || b ≡ true
    by true b c f = refl
    by false true c f = refl
    by false false c f = f

-- the four slots' answer, from each of the four tests
abbrev fourth : Bool → Bool → Bool → Bool → Result (Unit {0}) Refusal
fourth a b c d =
    cond a (cond b (cond c (cond d (Ok tt) (refused BadHolidays 3)) (refused BadHolidays 2)) (refused BadHolidays 1)) (refused BadHolidays 0)

-- four slots in order are sound each
slots-each : (h : Holidays) → slots_answer h ≡ Ok tt
    → (sound_in h.public 0 ≡ true) × ((sound_in h.public_unknown 1 ≡ true) × ((sound_in h.school 2 ≡ true) × (sound_in h.school_unknown 3 ≡ true)))
unfolding slots_answer
slots-each h e = by (sound_in h.public 0) (sound_in h.public_unknown 1) (sound_in h.school 2) (sound_in h.school_unknown 3) e
  where
    by : (a b c d : Bool) → fourth a b c d ≡ Ok tt → (a ≡ true) × ((b ≡ true) × ((c ≡ true) × (d ≡ true)))
    by true true true true f = (refl, (refl, (refl, refl)))
    by true true true false f = absurd (let z : ◌≡◌ {A = ℕ} 0 1 = cc in omega arith)
    by true true false d f = absurd (let z : ◌≡◌ {A = ℕ} 0 1 = cc in omega arith)
    by true false c d f = absurd (let z : ◌≡◌ {A = ℕ} 0 1 = cc in omega arith)
    by false b c d f = absurd (let z : ◌≡◌ {A = ℕ} 0 1 = cc in omega arith)

-- the images of accepted inputs are sound
pub images-sound : (s : List ℕ) (row : Events) (h : Holidays) (x : Sheet) → inputs_of s row h ≡ Ok x → Sound h
images-sound s row h x k =
    let e = slots-each h (accepted-in s row h x k).slots in
    record {
      public = slot-alone _ 0 e.0;
      public_unknown = slot-alone _ 1 e.1.0;
      school = slot-alone _ 2 e.1.1.0;
      school_unknown = slot-alone _ 3 e.1.1.1;
    }

-- the limits of a refusal's number and place
record Limits {A : Type 0} (r : Result A Refusal) : Type 0 where
  within : (f : Refusal) → r ≡ Err f → (number f.cause ≤ 6) × (f.place ≤ 50960)

ok-limits : {A : Type 0} (x : A) → Limits {A = A} (Ok x)
ok-limits x = record { within = λ f e. absurd (let z : ◌≡◌ {A = ℕ} 0 1 = cc in omega arith) }

err-limits : {A : Type 0} (f : Refusal) → number f.cause ≤ 6 → f.place ≤ 50960 → Limits {A = A} (Err f)
err-limits f n p = record { within = λ g e. let q : f ≡ g = cc in rw (← q) (n, p) }

-- limits of both are limits of the two together
and-limits : {A B : Type 0} (a : Result A Refusal) (b : Result B Refusal) → Limits a → Limits b → Limits (and_also a b)
and-limits (Err f) b x y = x
and-limits (Ok v) (Err f) x y = record { within = λ g e. y.within g (let q : f ≡ g = cc in rw q refl) }
and-limits (Ok v) (Ok w) x y = ok-limits v

rules-limits : (p : Place) (x : Sheet) → spot p ≤ 50960 → Numbered p → Limits (sheet_of p x)
rules-limits (At a) x h n = ok-limits x
rules-limits (Refused c b) x h k = err-limits _ (omega (arith, k.1)) h

-- a slot is named by 0 to 3
slots-limits : (h : Holidays) → Limits (slots_answer h)
unfolding slots_answer
slots-limits h = by (sound_in h.public 0) (sound_in h.public_unknown 1) (sound_in h.school 2) (sound_in h.school_unknown 3)
  where
    by : (a b c d : Bool) → Limits (fourth a b c d)
    by true true true true = ok-limits tt
    by true true true false = err-limits _ (omega arith) (omega arith)
    by true true false d = err-limits _ (omega arith) (omega arith)
    by true false c d = err-limits _ (omega arith) (omega arith)
    by false b c d = err-limits _ (omega arith) (omega arith)

-- an event is named by its index
lowest-limits : (e : ℕ) (l : List ℕ) → e + length l ≤ 50960 → Limits (lowest_bad e l)
unfolding lowest_bad
lowest-limits e [] h = ok-limits tt
lowest-limits e (n ∷ l) h = by (event_time n) (lowest-limits (e + 1) l (omega arith))
  where
    by : (q : Bool) → Limits (lowest_bad (e + 1) l) → Limits (cond q (lowest_bad (e + 1) l) (refused BadEvent e))
    by true x = x
    by false x = err-limits _ (omega arith) (omega arith)

-- no number is above 6, and no place behind the longest image
pub inputs-limits : (s : List ℕ) (row : Events) (h : Holidays) (f : Refusal) → inputs_of s row h ≡ Err f → (number f.cause ≤ 6) × (f.place ≤ 50960)
unfolding inputs_of beside_rules
inputs-limits s row h f e =
    let x = and-limits (sheet_on s) (and_also (slots_answer h) (event_refusal row)) (rules-limits (reading s).place (reading s).item (reading-place s).0 (reading-place s).1)
    (and-limits (slots_answer h) (event_refusal row) (slots-limits h) (lowest-limits 0 (times row) (omega arith))) in
    x.within f e
