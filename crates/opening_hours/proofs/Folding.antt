-- The rules' turns one after the other: what is held so far, and the rules that are left, give the whole.
use mathlib.Core.Path.{◌≡◌, sym, ap, subst, ◌∙◌}
use mathlib.Core.List.{List, map}
use Prim.Native.Nat.{ℕ, ◌≤◌}
use native.Mathlib.Omega.{arith}
use lib.ListN.{length, take, drop, drop_of_length-le}
use Rattle.std.specs.Prelude.{Option, Some, None, Ok}
use Rattle.rules.specs.declared.Rule.{Rule}
use Rattle.time_filter.specs.declared.Events.{Events}
use Rattle.date_filter.specs.Filter.{Holidays}
use Rattle.ranges.specs.States.{InOrder}
use Rattle.ranges.specs.Words.{ranges}
use Rattle.ranges.proofs.Lists.{long-ranges}
use Rattle.ranges.proofs.Closing.{in-drop}
use Rattle.schedule.specs.Rooms.{Leaves}
use Rattle.reading.specs.Ranging.{Ranged, day_r, range_m, range_reading}
use Rattle.operators.specs.declared.Held.{Held}
use Rattle.operators.specs.Rooms.{eval_in, turn_of, Ready}
use Rattle.rule_day.specs.Parts.{spanned_on}
use Rattle.opening_hours.specs.Rooms.{Answered}

-- after i of the rules, in the room xs: what is held, with the rules from i on, gives what all rules give
pub record Folding (h : Holidays) (e : Events) (n : ℕ) (rs : List Rule) (k : Held) (xs : List ℕ) (i : ℕ) : Type 0 where
  pub ready : Ready k.evaluation xs 64
  pub fold : range_m i (map (spanned_on h e n) (drop i rs)) (turn_of k xs) ≡ range_reading (map (spanned_on h e n) rs)

-- an evaluation's list is in order as its ranges are
list-order : (v : Option ℕ) (xs : List ℕ) → Ready v xs 64 → InOrder 0 (day_r (eval_in v xs)) 1440
list-order None xs q = omega arith
list-order (Some n) xs q = in-drop 0 1440 (ranges (take n xs)) q.order

-- what the drop leaves is the day's list, where all rules had their turn
pub finished : (h : Holidays) (e : Events) (n : ℕ) (rs : List Rule) (k : Held) (xs : List ℕ) (i : ℕ) → Folding h e n rs k xs i → length rs ≤ i
    → (ys : List ℕ) (r : ℕ) → 64 ≤ length ys → Leaves (day_r (eval_in k.evaluation xs)) ys 64 r → Answered (range_reading (map (spanned_on h e n) rs)) ys (Ok r)
finished h e n rs k xs i st u ys r l w =
    let g : length (day_r (eval_in k.evaluation xs)) ≡ r = ap length (sym w.list) ∙ long-ranges ys r (omega (arith, w.few)) in
    subst (λ (z : Ranged). Answered z ys (Ok r)) (rw (drop_of_length-le rs u) at st.fold)
    (record { answer = rw g; few = rw g w.few; list = rw g w.list; order = list-order k.evaluation xs st.ready })
