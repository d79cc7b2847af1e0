-- `calendar::before_month` meets its contract: each row of the table holds the running sums of the month lengths, by one test over it.
use Rattle.std.proofs.Common.{◌≡◌, ℕ, ◌<◌, Bool, true, false, [], ◌∷◌, slice_index_or, List}
use mir.Val.{bool_byte}
use Rattle.calendar.specs.Calendar.{before_month, month_length}
use Rattle.calendar.proofs.Tabled.{tabled}
use Rattle.calendar.proofs.before_month.Goals as goal

row : Bool → List ℕ
row l = slice_index_or {A = List ℕ}
    ((0 ∷ 0 ∷ 31 ∷ 59 ∷ 90 ∷ 120 ∷ 151 ∷ 181 ∷ 212 ∷ 243 ∷ 273 ∷ 304 ∷ 334 ∷ 365 ∷ [])
    ∷ (0 ∷ 0 ∷ 31 ∷ 60 ∷ 91 ∷ 121 ∷ 152 ∷ 182 ∷ 213 ∷ 244 ∷ 274 ∷ 305 ∷ 335 ∷ 366 ∷ []) ∷ [])
    (bool_byte l) []

in-table : (l : Bool) (m : ℕ) → m < 14 → slice_index_or (row l) m 0 ≡ before_month l m
unfolding row before_month month_length
in-table true m h = tabled (before_month true) (row true) tt m h
in-table false m h = tabled (before_month false) (row false) tt m h

pub returns : goal.returns
unfolding row
returns c = in-table c.args.leap c.args.month c.requires
