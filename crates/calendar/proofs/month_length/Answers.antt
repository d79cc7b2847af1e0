-- `calendar::month_length` meets its contract: each row of the table is the definition's list.
use Rattle.std.proofs.Common.{◌≡◌, ℕ, Bool, true, false, [], ◌∷◌, slice_index_or, List, refl}
use mir.Val.{bool_byte}
use Rattle.calendar.specs.Calendar.{month_length}
use Rattle.calendar.proofs.month_length.Goals as goal

in-table : (l : Bool) (m : ℕ) → slice_index_or
    (slice_index_or {A = List ℕ} ((0 ∷ 31 ∷ 28 ∷ 31 ∷ 30 ∷ 31 ∷ 30 ∷ 31 ∷ 31 ∷ 30 ∷ 31 ∷ 30 ∷ 31 ∷ []) ∷ (0 ∷ 31 ∷ 29 ∷ 31 ∷ 30 ∷ 31 ∷ 30 ∷ 31 ∷ 31 ∷ 30 ∷ 31 ∷ 30 ∷ 31 ∷ []) ∷ []) (bool_byte l) [])
    m
    0 ≡ month_length l m
unfolding month_length
in-table true m = refl
in-table false m = refl

pub returns : goal.returns
returns c = in-table c.args.leap c.args.month
