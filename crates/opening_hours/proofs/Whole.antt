-- What the answer of a day means: its listing is the day's runs by the minute reading, and it is refused exactly at the first rule whose addition is too long.
use mathlib.Core.Path.{◌≡◌, refl, sym, subst, ◌∙◌}
use mathlib.Core.Bool.{Bool, true, false, cond}
use mathlib.Core.Option.{Option}
use mathlib.Core.List.{List, [], map}
use Prim.Native.Nat.{ℕ}
use native.Mathlib.Omega.{arith}
use lib.ListN.{length, take}
use Rattle.std.specs.Prelude.{Result, Ok, Err}
use Rattle.refusals.specs.declared.Refusal.{Refusal}
use Rattle.rules.specs.declared.Rule.{Rule}
use Rattle.rules.specs.declared.Sheet.{Sheet}
use Rattle.rule_image.specs.Limits.{SheetOk}
use Rattle.time_filter.specs.declared.Events.{Events}
use Rattle.date_filter.specs.Filter.{Holidays}
use Rattle.ranges.specs.Range.{Range}
use Rattle.ranges.specs.Words.{ranges}
use Rattle.schedule.proofs.Meaning.{State}
use Rattle.listing.specs.Listing.{listing}
use Rattle.listing.proofs.Tiling.{listed}
use Rattle.listing.proofs.Unique.{only-listing}
use Rattle.reading.specs.Operators.{start}
use Rattle.reading.specs.Reading.{reading, no_label, day_at}
use Rattle.reading.specs.Ruled.{Ruled}
use Rattle.reading.specs.Ranging.{Ranged, over64, gives, day_r}
use Rattle.reading.specs.Agreement.{rules_of, Every, Clipped, Small, StatesIn, Tells}
use Rattle.reading.proofs.RangesAgree.{tells}
use Rattle.reading.proofs.Refusals.{refused-at}
use Rattle.rule_day.specs.Parts.{ruled_on, spanned_on}
use Rattle.rule_day.proofs.Bridges.{sheet-rules}
use Rattle.rule_day.proofs.Agreeing.{all-clipped, all_small, all_kinds, rules-of}
use Rattle.opening_hours.proofs.Firsts.{FirstLong, all_fit, long-refused}
use Rattle.opening_hours.specs.Rooms.{Answered}
use Rattle.opening_hours.specs.Hours.{can_show, rules_in, rules_on, spanneds_on, day_ranged, Runs}

-- of no rules anything holds
every-if : {A : Type 0} (Q : A → Type 0) (b : Bool) (l : List A) → Every Q l → Every Q (cond b l [])
every-if Q true l h = h
every-if Q false l h = tt

module _ (h : Holidays) (e : Events) (n : ℕ) where
  rules-if : (b : Bool) (rs : List Rule) → rules_of (cond b (map (spanned_on h e n) rs) []) ≡ cond b (map (ruled_on h e n) rs) []
  rules-if true rs = rules-of h e n rs
  rules-if false rs = refl

-- an accepted answer is an evaluation's, and a refusal a rule's
record Accepted (x : Ranged) (xs : List ℕ) (n : ℕ) : Type 0 where
  value : Option (List Range)
  is : x ≡ gives value
  list : ranges (take n xs) ≡ day_r value

accepted : (x : Ranged) (xs : List ℕ) (n : ℕ) → Answered x xs (Ok n) → Accepted x xs n
accepted (over64 k) xs n a = let q = a.answer in absurd (let z : ◌≡◌ {A = ℕ} 0 1 = cc in omega arith)
accepted (gives v) xs n a = let q : n ≡ length (day_r v) = cc (a.answer) in record { value = v; is = refl; list = rw q a.list }

refused : (x : Ranged) (xs : List ℕ) (f : Refusal) → Answered x xs (Err f) → x ≡ over64 f.place
refused (over64 k) xs f a = let q = a.answer in cc
refused (gives v) xs f a = let q = a.answer in cc

module _ (h : Holidays) (e : Events) (n : ℕ) (s : Sheet) (ok : SheetOk s) where
  clipped-on : Every Clipped (spanneds_on h e n s)
  clipped-on = every-if Clipped (can_show n) (map (spanned_on h e n) (rules_in s)) (all-clipped h e n (rules_in s))

  small-on : Every Small (spanneds_on h e n s)
  small-on =
      every-if Small (can_show n) (map (spanned_on h e n) (rules_in s))
      (all_small h e n (rules_in s) (sheet-rules s ok))

  kinds-on : Every (StatesIn State) (spanneds_on h e n s)
  kinds-on =
      every-if (StatesIn State) (can_show n) (map (spanned_on h e n) (rules_in s))
      (all_kinds h e n (rules_in s) (sheet-rules s ok))

  module _ (v : Option (List Range)) (z : day_ranged h e n s ≡ gives v) where
    -- THEOREM: the day's list is at most 64 long, in order, of kinds 0 to 2 and comments 0 to 255, and shows the minute reading
    pub day-tells : Tells State (reading no_label (rules_on h e n s)) (day_r v)
    day-tells =
        subst (λ (ms : List Ruled). Tells State (reading no_label ms) (day_r v)) (rules-if h e n (can_show n) (rules_in s))
        (tells State no_label (spanneds_on h e n s) clipped-on kinds-on v z)

    -- THEOREM: its listing is the day's runs
    pub day-runs : Runs (day_at (rules_on h e n s)) (listing (day_r v))
    day-runs =
        let k = listed (day_r v) day-tells.order in
        record { tiles = k.tiles; differ = k.differ; shows_all = λ t i. k.shows_all t i ∙ day-tells.at t i }

    -- THEOREM: and the only list that is
    pub day-only : (l : List Range) → Runs (day_at (rules_on h e n s)) l → l ≡ listing (day_r v)
    day-only l w =
        only-listing (day_r v) l day-tells.order
        (record { tiles = w.tiles; differ = w.differ; shows_all = λ t i. w.shows_all t i ∙ sym (day-tells.at t i) })

  -- THEOREM: refused, the day names the first rule whose addition is too long
  pub refused-first : (k : ℕ) → day_ranged h e n s ≡ over64 k → FirstLong 0 (spanneds_on h e n s) start k
  refused-first k z = let a = refused-at (spanneds_on h e n s) k clipped-on small-on z in record { at = a; fits = all_fit 0 (spanneds_on h e n s) start k a z }

  module _ (xs : List ℕ) (r : Result ℕ Refusal) (a : Answered (day_ranged h e n s) xs r) where
    -- THEOREM: the listing of the words that an accepted day leaves in the room is the day's runs
    pub words-run : (m : ℕ) → r ≡ Ok m → Runs (day_at (rules_on h e n s)) (listing (ranges (take m xs)))
    words-run m z = let w = accepted (day_ranged h e n s) xs m (rw z at a) in rw w.list (day-runs w.value w.is)

    -- THEOREM: a refused day's place is the first rule whose addition is too long
    pub place-first : (f : Refusal) → r ≡ Err f → FirstLong 0 (spanneds_on h e n s) start f.place
    place-first f z = refused-first f.place (refused (day_ranged h e n s) xs f (rw z at a))

-- THEOREM: and such a rule is refused
pub first-refused : (h : Holidays) (e : Events) (n : ℕ) (s : Sheet) (k : ℕ) → FirstLong 0 (spanneds_on h e n s) start k → day_ranged h e n s ≡ over64 k
first-refused h e n s k f = long-refused 0 (spanneds_on h e n s) start k f
