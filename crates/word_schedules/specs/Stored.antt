-- Schedules offered and answered as slices of words: what is answered, and what the lent memory then holds.
use Rattle.std.specs.Prelude.{◌≡◌, cond, List, ◌++◌, ℕ, ◌-◌, leb, length, take, drop, replicate, Result, Ok, Err}
use Rattle.refusals.specs.Numbers.{refused}
use Rattle.refusals.specs.declared.Cause.TheVariants.{NoRoom}
use Rattle.refusals.specs.declared.Refusal.{Refusal}
use Rattle.schedule.specs.declared.Schedule.{Schedule}

-- the schedule that words offer: zeros behind them; over 64 of them are no valid one
abbrev pub offered : List ℕ → Schedule
offered w = record { len = length w; words = w ++ replicate (64 - length w) 0 }

-- words into so many cells: 9 with the words needed where they are more
unfoldable pub fitted : List ℕ → ℕ → Result ℕ Refusal
fitted w cells = cond (leb (length w) cells) (Ok (length w)) (refused NoRoom (length w))

-- the words from the front, and nothing behind them
unfoldable pub fitted_cells : List ℕ → List ℕ → List ℕ
fitted_cells w o = cond (leb (length w) (length o)) (w ++ drop (length w) o) o

-- the words of a schedule
abbrev pub words_of : Schedule → List ℕ
words_of s = take s.len s.words

-- an answer's words where nothing is refused
abbrev pub stored_in : Result Schedule Refusal → ℕ → Result ℕ Refusal
stored_in (Ok s) cells = fitted (words_of s) cells
stored_in (Err r) cells = Err r

abbrev pub cells_in : Result Schedule Refusal → List ℕ → List ℕ
cells_in (Ok s) o = fitted_cells (words_of s) o
cells_in (Err r) o = o

-- the answer r, and p in place of o
pub record Fits (w o p : List ℕ) (r : Result ℕ Refusal) : Type 0 where
  pub answer : r ≡ fitted w (length o)
  pub cells : p ≡ fitted_cells w o

pub record Stores (a : Result Schedule Refusal) (o p : List ℕ) (r : Result ℕ Refusal) : Type 0 where
  pub answer : r ≡ stored_in a (length o)
  pub cells : p ≡ cells_in a o
