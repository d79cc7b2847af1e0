-- What a listing that is not refused says: its entries are the words of the day's runs, and nothing is written behind them.
use mathlib.Core.Path.{◌≡◌, refl}
use mathlib.Core.Bool.{Bool, true, false, cond}
use mathlib.Core.List.{List}
use Prim.Native.Nat.{ℕ}
use native.Mathlib.Omega.{arith}
use lib.Dec.{leb}
use lib.ListN.{length}
use Rattle.std.specs.Prelude.{Result, Ok, Err}
use Rattle.refusals.specs.Numbers.{refused}
use Rattle.refusals.specs.declared.Cause.TheVariants.{NoDate, NoRoom}
use Rattle.refusals.specs.declared.Refusal.{Refusal}
use Rattle.calendar.specs.Calendar.{day_number}
use Rattle.calendar.specs.declared.Date.{Date}
use Rattle.dates.specs.Exists.{is_date}
use Rattle.rules.specs.declared.Sheet.{Sheet}
use Rattle.rule_image.specs.Reading.{reading}
use Rattle.time_filter.specs.declared.Events.{Events}
use Rattle.date_filter.specs.Filter.{Holidays}
use Rattle.ranges.specs.Range.{Range}
use Rattle.ranges.specs.States.{Shown}
use Rattle.reading.specs.Reading.{day_at}
use Rattle.reading.specs.Ranging.{Ranged, over64, gives, day_r}
use Rattle.opening_hours.specs.Hours.{rules_on, day_ranged, Runs}
use Rattle.opening_hours.proofs.Whole.{day-runs}
use Rattle.listing.specs.Listing.{listing}
use Rattle.listing.specs.Writing.{written}
use Rattle.inputs.specs.Inputs.{inputs_of}
use Rattle.inputs.proofs.Meaning.{sheet-ok, accepted-in, accepted-out}
use Rattle.day_listing.specs.Listed.{day_listed, day_cells, date_listed, date_cells, answer_on, cells_on}

-- p is o with the words of f's runs in front, as many as count says
pub record Shows (f : ℕ → Shown) (o p : List ℕ) (count : ℕ) : Type 0 where
  pub entries : List Range
  pub runs : Runs f entries
  pub many : count ≡ length entries
  pub cells : p ≡ written entries o

never : {A : Type 0} {f : Refusal} {n : ℕ} → ◌≡◌ {A = Result ℕ Refusal} (Err f) (Ok n) → A
never e = absurd (let z : ◌≡◌ {A = ℕ} 0 1 = cc in omega arith)

module _ (rules : List ℕ) (row : Events) (h : Holidays) (date : Date) (o : List ℕ) (n : ℕ) where
  abbrev shown : Sheet → ℕ → Shown
  shown sheet = day_at (rules_on h row (day_number date) sheet)

  -- a day's list that fits
  of-day : (sheet : Sheet) → inputs_of rules row h ≡ Ok sheet → (x : Ranged) → day_ranged h row (day_number date) sheet ≡ x → day_listed x (length o) ≡ Ok n
      → Shows (shown sheet) o (day_cells x o) n
  of-day sheet a (over64 k) e z = never z
  of-day sheet a (gives v) e z = by (leb (length (listing (day_r v))) (length o)) z
    where
      by : (q : Bool) → cond q (Ok (length (listing (day_r v)))) (refused NoRoom (length (listing (day_r v)))) ≡ Ok n
          → Shows (shown sheet) o (cond q (written (listing (day_r v)) o) o) n
      by true y =
          record {
            entries = listing (day_r v);
            runs = day-runs h row (day_number date) sheet (sheet-ok rules row h sheet a) v e;
            many = cc;
            cells = refl;
          }
      by false y = never y

  -- from inputs that are accepted
  by-sheet : (i : Result Sheet Refusal) → inputs_of rules row h ≡ i → date_listed i row h date (length o) ≡ Ok n → Shows (shown (reading rules).item) o (date_cells i row h date o) n
  by-sheet (Err f) a z = never z
  by-sheet (Ok sheet) a z =
      let s : sheet ≡ (reading rules).item = cc (accepted-out rules row h (accepted-in rules row h sheet a)) in
      rw (← s) (by (is_date date) z)
    where
      by : (q : Bool) → cond q (day_listed (day_ranged h row (day_number date) sheet) (length o)) (refused NoDate 0) ≡ Ok n
          → Shows (shown sheet) o (cond q (day_cells (day_ranged h row (day_number date) sheet) o) o) n
      by true y = of-day sheet a (day_ranged h row (day_number date) sheet) refl y
      by false y = never y

  -- THEOREM: the entries written are the runs of the minute reading of the rules that the image holds
  pub day-shown : answer_on rules row h date (length o) ≡ Ok n → Shows (day_at (rules_on h row (day_number date) (reading rules).item)) o (cells_on rules row h date o) n
  unfolding answer_on cells_on
  day-shown z = by-sheet (inputs_of rules row h) refl z
