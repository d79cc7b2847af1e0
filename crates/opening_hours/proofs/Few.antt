-- A day's list has at most 64 ranges, whatever the sheet: each turn's result is judged.
use mathlib.Core.Path.{◌≡◌, refl}
use mathlib.Core.Bool.{true}
use mathlib.Core.List.{List, [], ◌∷◌}
use mathlib.Core.Option.{Option, none, some}
use Prim.Native.Nat.{ℕ, ◌+◌, ◌≤◌}
use native.Mathlib.Omega.{arith}
use lib.ListN.{length}
use borrow.Author.Tests.{leb-true}
use Rattle.rules.specs.declared.Sheet.{Sheet}
use Rattle.time_filter.specs.declared.Events.{Events}
use Rattle.date_filter.specs.Filter.{Holidays}
use Rattle.ranges.specs.Range.{Range}
use Rattle.ranges.proofs.Cases.{by}
use Rattle.ranges.proofs.Closing.{few-drop}
use Rattle.reading.specs.Operators.{Turn, start}
use Rattle.reading.specs.Ranging.{Spanned, over64, gives, few_b, turn_r, range_m, day_r}
use Rattle.opening_hours.specs.Hours.{spanneds_on, day_ranged}

-- the last result is judged like every other
gives-few : (n : ℕ) (ms : List Spanned) (p : Turn (List Range)) (e : Option (List Range)) → few_b p.eval ≡ true → range_m n ms p ≡ gives e → few_b e ≡ true
gives-few n [] p e h k = let q : p.eval ≡ e = cc in rw (← q) h
gives-few n (m ∷ ms) p e h k =
    by (few_b (turn_r m p).eval)
    (λ f. gives-few (n + 1) ms (turn_r m p) e f (rw f at k))
    (λ f. let z : over64 n ≡ gives e = rw f at k in let w : ◌≡◌ {A = ℕ} 0 1 = cc in absurd (omega arith))

few-ranges : (e : Option (List Range)) → few_b e ≡ true → length (day_r e) ≤ 64
few-ranges none h = omega arith
few-ranges (some l) h = omega (arith, few-drop l, leb-true (length l) 64 h)

pub day-few : (h : Holidays) (row : Events) (n : ℕ) (s : Sheet) (e : Option (List Range)) → day_ranged h row n s ≡ gives e → length (day_r e) ≤ 64
day-few h row n s e k = few-ranges e (gives-few 0 (spanneds_on h row n s) start e refl k)
