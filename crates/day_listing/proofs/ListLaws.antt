-- Accepted inputs and a date that there is are what the evaluation asks for, and its answer is the question's.
use mathlib.Core.Path.{◌≡◌, refl, sym, subst}
use mathlib.Core.Bool.{Bool, true, false}
use mathlib.Core.List.{List}
use Prim.Native.Nat.{ℕ}
use native.Mathlib.Omega.{arith}
use Rattle.std.specs.Prelude.{Result, Ok}
use Rattle.refusals.specs.declared.Refusal.{Refusal}
use Rattle.calendar.specs.Calendar.{day_number}
use Rattle.calendar.specs.declared.Date.{Date}
use Rattle.days.specs.DayOf.{day_of}
use Rattle.days.specs.declared.Day.{Day}
use Rattle.dates.specs.Exists.{is_date}
use Rattle.dates.specs.Answers.{answered, day_answer}
use Rattle.rules.specs.declared.Sheet.{Sheet}
use Rattle.time_filter.specs.declared.Events.{Events}
use Rattle.date_items.proofs.Laws.{is-day, own-number}
use Rattle.date_filter.specs.Filter.{Holidays}
use Rattle.opening_hours.specs.Hours.{day_ranged}
use Rattle.inputs.specs.Inputs.{inputs_of}
use Rattle.inputs.proofs.Meaning.{sheet-ok, images-sound}
use Rattle.day_listing.specs.Listed.{answer_on, cells_on, DayLists, Lists, Ready}

-- a date that there is, with its day
record Dated (date : Date) (d : Day) : Type 0 where
  there : is_date date ≡ true
  day : d ≡ day_of (day_number date)

dated : (date : Date) (d : Day) → Ok d ≡ day_answer date → Dated date d
unfolding day_answer
dated date d e = by (is_date date) refl e
  where
    by : (b : Bool) → is_date date ≡ b → Ok d ≡ answered b (day_of (day_number date)) → Dated date d
    by true f k = record { there = f; day = cc }
    by false f k = absurd (let z : ◌≡◌ {A = ℕ} 0 1 = cc in omega arith)

module _ (rules : List ℕ) (row : Events) (h : Holidays) (date : Date) (sheet : Sheet) (e : Ok sheet ≡ inputs_of rules row h) (d : Day) (k : Ok d ≡ day_answer date) where
  pub ready : Ready h sheet d
  ready = record {
    images = images-sound rules row h sheet (sym e);
    limits = sheet-ok rules row h sheet (sym e);
    day = is-day d (day_number date) (dated date d k).day;
  }

  pub listed : (o p : List ℕ) (r : Result ℕ Refusal) → DayLists (day_ranged h row d.number sheet) o p r → Lists rules row h date o p r
  unfolding answer_on cells_on
  listed o p r w =
      let f = dated date d k in
      let x = subst (λ (n : ℕ). DayLists (day_ranged h row n sheet) o p r) (own-number d (day_number date) f.day) w in
      record { answer = rw (← e, f.there) x.answer; cells = rw (← e, f.there) x.cells }
