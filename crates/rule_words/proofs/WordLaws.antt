-- An item at the front of a word is the item that the image holds there, since each of its parts is a field within its limits.
use mathlib.Core.Path.{◌≡◌, refl, ap, sym, ◌∙◌}
use mathlib.Core.Bool.{Bool, true, false, cond, ◌&&◌}
use mathlib.Core.List.{List}
use Prim.Native.Nat.{ℕ, ◌+◌, ◌/◌, ◌^◌, ◌<◌, ◌≤◌}
use native.Mathlib.Nat.{mod-lt}
use native.Mathlib.Omega.{arith}
use lib.Dec.{leb, ltb, eqb}
use lib.ListN.{length}
use lib.IntN.{ℤ, nat_abs}
use lib.Pow.{pow_pos}
use borrow.Author.Tests.{eqb-true, eqb-false, leb-true, ltb-true, ltb-false}
use Rattle.bits.specs.Bits.{ahead_of, part}
use Rattle.bits.specs.Place.{Place, At, Read, within, at_most, number_at, signed_at}
use Rattle.bits.specs.Signed.{signed_of}
use Rattle.refusals.specs.declared.Cause.TheVariants.{PastEnd, NoMeaning, PastLimits}
use Rattle.bits.proofs.AheadLaws.{Front, front, number-ahead, signed-ahead}
use Rattle.bits.proofs.ReadLaws.{in-range}
use Rattle.bits.proofs.SignLaws.{size-over, size-under}
use Rattle.rules.specs.declared.YearItem.{YearItem}
use Rattle.rules.specs.declared.WeekItem.{WeekItem}
use Rattle.rules.specs.declared.Date.{Date}
use Rattle.rules.specs.declared.Date.TheVariants as date
use Rattle.rules.specs.declared.Monthday.TheVariants.{Dates}
use Rattle.rules.specs.declared.WeekdayItem.{WeekdayItem}
use Rattle.rules.specs.declared.WeekdayRange.TheVariants as range
use Rattle.rules.specs.declared.Time.{Time}
use Rattle.rules.specs.declared.Time.TheVariants as time
use Rattle.rules.specs.declared.DateOffset.{DateOffset}
use Rattle.rule_items.specs.Codes.{weekday_at}
use Rattle.rule_items.specs.Years.{year_at, week_at}
use Rattle.rule_items.specs.Dates.{flagged_year, fixed_date, nth_date, easter_date, date_form, date_at, date_offset, monthday_form, monthday_at}
use Rattle.rule_items.specs.Weekdays.{fixed_weekdays, holiday_form, weekday_form, weekday_item_at}
use Rattle.rule_items.specs.Spans.{fixed_time, variable_time, time_form, time_at, span_at}
use Rattle.rule_items.proofs.ItemLaws.{year-made, week-made, flagged-made, fixed_made, easter-made, dates-made, fixed-time-made, span-made}
use Rattle.rule_words.specs.Words.{year_good, year_of, year_taken, week_good, week_of, week_taken, weekdays_good, weekdays_taken, holiday_good, holiday_taken, weekday_taken}
use Rattle.rule_words.specs.Words.{time_taken, flagged_good, fixed_good, nth_good, offset_good, fixed_taken, nth_taken, easter_taken, date_taken}
use Rattle.rule_words.specs.declared.Taken.{Taken}
use Rattle.std.specs.Bool.{then_some}
use Rattle.std.specs.Prelude.{Some, None}
use Rattle.std.proofs.lemmas.Option.{same_Some, none-some}

-- both tests of two that held
both : (a b : Bool) → a && b ≡ true → (a ≡ true) × (b ≡ true)
both true b e = (refl, e)
both false b e = let z : ◌≡◌ {A = ℕ} 0 1 = cc in absurd (omega arith)

-- what was taken was judged good
chosen : {A : Type 0} (g : Bool) (t r : A) → then_some g t ≡ Some r → (g ≡ true) × (r ≡ t)
chosen true t r e = (refl, sym (same_Some _ _ e))
chosen false t r e = absurd (none-some _ e)

part-lt : (w d f : ℕ) → part w d f < 2 ^ f
part-lt w d f = mod-lt (w / 2 ^ d) (pow_pos f)

-- what f bits can hold is within limits that are no narrower
held : (w d f hi : ℕ) → 2 ^ f ≤ hi + 1 → within 0 hi (part w d f) ≡ true
held w d f hi h = in-range 0 hi (part w d f) (omega arith) (omega (arith, part-lt w d f))

one_left : (n : ℕ) → n < 2 → (n ≡ 0 → ⊥) → n ≡ 1
one_left n h i = omega arith

-- four bits in two's complement are at most 8 from 0
nth_near : (v : ℕ) → v < 16 → nat_abs (signed_of 16 v) ≤ 8
nth_near v h = by (ltb v 8) refl
  where
    by : (b : Bool) → ltb v 8 ≡ b → nat_abs (signed_of 16 v) ≤ 8
    by true e = omega (arith, size-over v 16 (ltb-true v 8 e), ltb-true v 8 e)
    by false e = omega (arith, size-under v 16 h (ltb-false v 8 e), ltb-false v 8 e)

-- The definitions that hold a signed number, put together from the last field to the first.
module _ (s : List ℕ) (p : Place) where
  weekdays-put : (a b f g : Read ℕ) (o : Read ℤ) → a ≡ weekday_at s p → b ≡ weekday_at s a.place → f ≡ number_at s b.place 5 0 31 PastLimits
      → g ≡ number_at s f.place 5 0 31 PastLimits → o ≡ signed_at s g.place 10 366
      → record { item = record { form = range.Fixed a.item b.item f.item g.item o.item }; place = o.place } ≡ fixed_weekdays s p
  unfolding fixed_weekdays
  weekdays-put a b f g o e1 e2 e3 e4 e5 = rw (e5, e4, e3, e2, e1)

  holiday-put : (f : Read ℕ) (o : Read ℤ) → f ≡ number_at s p 1 0 1 PastLimits → o ≡ signed_at s f.place 10 366
      → record { item = record { form = range.Holiday (eqb f.item 1) o.item }; place = o.place } ≡ holiday_form s p
  unfolding holiday_form
  holiday-put f o e g = rw (g, e)

  variable-put : (v : Read ℕ) (o : Read ℤ) → v ≡ number_at s p 2 0 3 PastLimits → o ≡ signed_at s v.place 12 1440
      → record { item = time.Variable v.item o.item; place = o.place } ≡ variable_time s p
  unfolding variable_time
  variable-put v o e g = rw (g, e)

  nth-put : (y m d : Read ℕ) (n : Read ℤ) → y ≡ flagged_year s p → m ≡ number_at s y.place 4 1 12 PastLimits → d ≡ weekday_at s m.place → n ≡ signed_at s d.place 4 8
      → record { item = date.Weekday y.item m.item d.item n.item; place = n.place } ≡ nth_date s p
  unfolding nth_date
  nth-put y m d n e f g i = rw (i, g, f, e)

  offset-put : (edition : ℕ) (d : Read Date) (o : Read ℤ) → d ≡ date_at s p → o ≡ signed_at s d.place 10 366
      → record { item = record { date = d.item; offset = o.item }; place = o.place } ≡ date_offset s edition p
  unfolding date_offset
  offset-put edition d o e f = rw (f, e)

module _ (s : List ℕ) (at w : ℕ) (x : Front s at w) where
  pub year-ahead : year_good w ≡ true → record { item = year_of w; place = At (at + 42) } ≡ year_at s (At at)
  unfolding year_good year_of
  year-ahead g =
      let q : at + 42 ≡ at + 14 + 14 + 14 = omega arith in
      let k = both _ _ g in
      let l = both _ _ k.1 in
      rw q
      (year-made s (At at) _ _ _ (number-ahead s at w x 0 14 50 (omega arith) (omega arith) at (omega arith) 1900 9999 PastEnd PastLimits k.0)
      (number-ahead s at w x 14 14 36 (omega arith) (omega arith) (at + 14) (omega arith) 1900 9999 PastEnd PastLimits l.0)
      (number-ahead s at w x 28 14 22 (omega arith) (omega arith) (at + 14 + 14) (omega arith) 1 9999 PastEnd PastLimits l.1))

  pub week-ahead : week_good w ≡ true → record { item = week_of w; place = At (at + 18) } ≡ week_at s (At at)
  unfolding week_good week_of
  week-ahead g =
      let q : at + 18 ≡ at + 6 + 6 + 6 = omega arith in
      let k = both _ _ g in
      let l = both _ _ k.1 in
      rw q
      (week-made s (At at) _ _ _ (number-ahead s at w x 0 6 58 (omega arith) (omega arith) at (omega arith) 1 53 PastEnd PastLimits k.0)
      (number-ahead s at w x 6 6 52 (omega arith) (omega arith) (at + 6) (omega arith) 1 53 PastEnd PastLimits l.0)
      (number-ahead s at w x 12 6 46 (omega arith) (omega arith) (at + 6 + 6) (omega arith) 1 53 PastEnd PastLimits l.1))

  -- a tag of one bit has a meaning whatever it is
  tag_one : record { item = part w 63 1; place = At (at + 1) } ≡ number_at s (At at) 1 0 1 NoMeaning
  tag_one = number-ahead s at w x 0 1 63 (omega arith) (omega arith) at (omega arith) 0 1 PastEnd NoMeaning (held w 63 1 1 (omega arith))

  tag-two : part w 62 2 ≤ 2 → record { item = part w 62 2; place = At (at + 2) } ≡ number_at s (At at) 2 0 2 NoMeaning
  tag-two h = number-ahead s at w x 0 2 62 (omega arith) (omega arith) at (omega arith) 0 2 PastEnd NoMeaning (in-range 0 2 (part w 62 2) (omega arith) h)

  weekdays-ahead : weekdays_good w ≡ true
      → record { item = record { form = range.Fixed (part w 60 3) (part w 57 3) (part w 52 5) (part w 47 5) (signed_of 1024 (part w 37 10)) }; place = At (at + 27) } ≡ fixed_weekdays s (At (at + 1))
  unfolding weekdays_good
  weekdays-ahead g =
      let q : at + 27 ≡ at + 1 + 3 + 3 + 5 + 5 + 10 = omega arith in
      let k = both _ _ g in
      let l = both _ _ k.1 in
      rw q
      (weekdays-put s (At (at + 1)) _ _ _ _ _ (number-ahead s at w x 1 3 60 (omega arith) (omega arith) (at + 1) (omega arith) 0 6 PastEnd NoMeaning k.0)
      (number-ahead s at w x 4 3 57 (omega arith) (omega arith) (at + 1 + 3) (omega arith) 0 6 PastEnd NoMeaning l.0)
      (number-ahead s at w x 7 5 52 (omega arith) (omega arith) (at + 1 + 3 + 3) (omega arith) 0 31 PastEnd PastLimits (held w 52 5 31 (omega arith)))
      (number-ahead s at w x 12 5 47 (omega arith) (omega arith) (at + 1 + 3 + 3 + 5) (omega arith) 0 31 PastEnd PastLimits (held w 47 5 31 (omega arith)))
      (signed-ahead s at w x 17 10 37 (omega arith) (omega arith) (at + 1 + 3 + 3 + 5 + 5) (omega arith) 366 (leb-true _ _ l.1)))

  holiday-ahead : holiday_good w ≡ true
      → record { item = record { form = range.Holiday (eqb (part w 62 1) 1) (signed_of 1024 (part w 52 10)) }; place = At (at + 12) } ≡ holiday_form s (At (at + 1))
  unfolding holiday_good
  holiday-ahead g =
      let q : at + 12 ≡ at + 1 + 1 + 10 = omega arith in
      rw q
      (holiday-put s (At (at + 1)) _ _
      (number-ahead s at w x 1 1 62 (omega arith) (omega arith) (at + 1) (omega arith) 0 1 PastEnd PastLimits (held w 62 1 1 (omega arith)))
      (signed-ahead s at w x 2 10 52 (omega arith) (omega arith) (at + 1 + 1) (omega arith) 366 (leb-true _ _ g)))

  pub weekday-ahead : (r : Taken WeekdayItem) → weekday_taken w ≡ Some r → record { item = r.item; place = At (at + r.width) } ≡ weekday_item_at s (At at)
  unfolding weekday_taken weekdays_taken holiday_taken weekday_item_at
  weekday-ahead r e = by (eqb (part w 63 1) 0) refl e
    where
      form : (t : ℕ) (q : Read WeekdayItem) → part w 63 1 ≡ t → q ≡ weekday_form s t (At (at + 1)) → q ≡ weekday_form s (number_at s (At at) 1 0 1 NoMeaning).item (number_at s (At at) 1 0 1 NoMeaning).place
      form t q i j =
          j ∙ ap (λ (k : ℕ). weekday_form s k (At (at + 1))) (sym i) ∙ ap (λ (k : Read ℕ). weekday_form s k.item k.place) tag_one

      by : (b : Bool) → eqb (part w 63 1) 0 ≡ b → cond b (weekdays_taken w) (holiday_taken w) ≡ Some r
          → record { item = r.item; place = At (at + r.width) } ≡ weekday_form s (number_at s (At at) 1 0 1 NoMeaning).item (number_at s (At at) 1 0 1 NoMeaning).place
      by true i j = let c = chosen (weekdays_good w) _ r j in form 0 _ (eqb-true _ _ i) (rw c.1 (weekdays-ahead c.0))
      by false i j =
          let c = chosen (holiday_good w) _ r j in
          form 1 _ (one_left _ (part-lt w 63 1) (eqb-false _ _ i)) (rw c.1 (holiday-ahead c.0))

  fixed-time-ahead : leb (part w 51 12) 2880 ≡ true → record { item = time.Fixed (part w 51 12); place = At (at + 13) } ≡ fixed_time s (At (at + 1))
  fixed-time-ahead g =
      let q : at + 13 ≡ at + 1 + 12 = omega arith in
      rw q
      (fixed-time-made s (At (at + 1)) _
      (number-ahead s at w x 1 12 51 (omega arith) (omega arith) (at + 1) (omega arith) 0 2880 PastEnd PastLimits (in-range 0 2880 (part w 51 12) (omega arith) (leb-true _ _ g))))

  variable-ahead : at_most 1440 (signed_of 4096 (part w 49 12)) ≡ true
      → record { item = time.Variable (part w 61 2) (signed_of 4096 (part w 49 12)); place = At (at + 15) } ≡ variable_time s (At (at + 1))
  variable-ahead g =
      let q : at + 15 ≡ at + 1 + 2 + 12 = omega arith in
      rw q
      (variable-put s (At (at + 1)) _ _
      (number-ahead s at w x 1 2 61 (omega arith) (omega arith) (at + 1) (omega arith) 0 3 PastEnd PastLimits (held w 61 2 3 (omega arith)))
      (signed-ahead s at w x 3 12 49 (omega arith) (omega arith) (at + 1 + 2) (omega arith) 1440 (leb-true _ _ g)))

  pub time-ahead : (r : Taken Time) → time_taken w ≡ Some r → record { item = r.item; place = At (at + r.width) } ≡ time_at s (At at)
  unfolding time_taken time_at
  time-ahead r e = by (eqb (part w 63 1) 0) refl e
    where
      form : (t : ℕ) (q : Read Time) → part w 63 1 ≡ t → q ≡ time_form s t (At (at + 1)) → q ≡ time_form s (number_at s (At at) 1 0 1 NoMeaning).item (number_at s (At at) 1 0 1 NoMeaning).place
      form t q i j = j ∙ ap (λ (k : ℕ). time_form s k (At (at + 1))) (sym i) ∙ ap (λ (k : Read ℕ). time_form s k.item k.place) tag_one

      by : (b : Bool) → eqb (part w 63 1) 0 ≡ b
          → cond b (then_some (leb (part w 51 12) 2880) (record { item = time.Fixed (part w 51 12); width = 13 }))
          (then_some (at_most 1440 (signed_of 4096 (part w 49 12))) (record { item = time.Variable (part w 61 2) (signed_of 4096 (part w 49 12)); width = 15 }))
          ≡ Some r
          → record { item = r.item; place = At (at + r.width) } ≡ time_form s (number_at s (At at) 1 0 1 NoMeaning).item (number_at s (At at) 1 0 1 NoMeaning).place
      by true i j = let c = chosen (leb (part w 51 12) 2880) _ r j in form 0 _ (eqb-true _ _ i) (rw c.1 (fixed-time-ahead c.0))
      by false i j =
          let c = chosen (at_most 1440 (signed_of 4096 (part w 49 12))) _ r j in
          form 1 _ (one_left _ (part-lt w 63 1) (eqb-false _ _ i)) (rw c.1 (variable-ahead c.0))

  flagged-ahead : flagged_good w ≡ true → record { item = part w 47 14; place = At (at + 2 + 1 + 14) } ≡ flagged_year s (At (at + 2))
  unfolding flagged_good
  flagged-ahead g =
      flagged-made s (At (at + 2)) _ _
      (number-ahead s at w x 2 1 61 (omega arith) (omega arith) (at + 2) (omega arith) 0 1 PastEnd PastLimits (held w 61 1 1 (omega arith)))
      (number-ahead s at w x 3 14 47 (omega arith) (omega arith) (at + 2 + 1) (omega arith) _ _ PastEnd PastLimits g)

  fixed-ahead : fixed_good w ≡ true → record { item = date.Fixed (part w 47 14) (part w 43 4) (part w 38 5); place = At (at + 26) } ≡ fixed_date s (At (at + 2))
  unfolding fixed_good
  fixed-ahead g =
      let q : at + 26 ≡ at + 2 + 1 + 14 + 4 + 5 = omega arith in
      let k = both _ _ g in
      let l = both _ _ k.1 in
      rw q
      (fixed_made s (At (at + 2)) _ _ _ (flagged-ahead k.0)
      (number-ahead s at w x 17 4 43 (omega arith) (omega arith) (at + 2 + 1 + 14) (omega arith) 1 12 PastEnd PastLimits l.0)
      (number-ahead s at w x 21 5 38 (omega arith) (omega arith) (at + 2 + 1 + 14 + 4) (omega arith) 1 31 PastEnd PastLimits l.1))

  nth-ahead : nth_good w ≡ true
      → record { item = date.Weekday (part w 47 14) (part w 43 4) (part w 40 3) (signed_of 16 (part w 36 4)); place = At (at + 28) } ≡ nth_date s (At (at + 2))
  unfolding nth_good
  nth-ahead g =
      let q : at + 28 ≡ at + 2 + 1 + 14 + 4 + 3 + 4 = omega arith in
      let k = both _ _ g in
      let l = both _ _ k.1 in
      rw q
      (nth-put s (At (at + 2)) _ _ _ _ (flagged-ahead k.0)
      (number-ahead s at w x 17 4 43 (omega arith) (omega arith) (at + 2 + 1 + 14) (omega arith) 1 12 PastEnd PastLimits l.0)
      (number-ahead s at w x 21 3 40 (omega arith) (omega arith) (at + 2 + 1 + 14 + 4) (omega arith) 0 6 PastEnd NoMeaning l.1)
      (signed-ahead s at w x 24 4 36 (omega arith) (omega arith) (at + 2 + 1 + 14 + 4 + 3) (omega arith) 8 (nth_near _ (part-lt w 36 4))))

  easter-ahead : flagged_good w ≡ true → record { item = date.Easter (part w 47 14); place = At (at + 17) } ≡ easter_date s (At (at + 2))
  easter-ahead g = let q : at + 17 ≡ at + 2 + 1 + 14 = omega arith in rw q (easter-made s (At (at + 2)) _ (flagged-ahead g))

  -- a date with its tag, and the offset behind its k bits
  behind : (edition k d : ℕ) (a : Date) → k + 10 + d ≡ 64 → k ≤ 28 → record { item = a; place = At (at + k) } ≡ date_at s (At at) → offset_good w d ≡ true
      → record { item = record { date = a; offset = signed_of 1024 (part w d 10) }; place = At (at + (k + 10)) } ≡ date_offset s edition (At at)
  behind edition k d a e l f g =
      let q : at + (k + 10) ≡ at + k + 10 = omega arith in
      rw q (offset-put s (At at) edition _ _ f (signed-ahead s at w x k 10 d (omega arith) (omega arith) (at + k) refl 366 (leb-true _ _ g)))

  form : (t : ℕ) (r : Read Date) → part w 62 2 ≡ t → t ≤ 2 → r ≡ date_form s t (At (at + 2)) → r ≡ date_at s (At at)
  unfolding date_at
  form t r i l j =
      j ∙ ap (λ (k : ℕ). date_form s k (At (at + 2))) (sym i) ∙ ap (λ (k : Read ℕ). date_form s k.item k.place) (tag-two (omega arith))

  pub date-ahead : (edition : ℕ) (r : Taken DateOffset) → date_taken w ≡ Some r → record { item = r.item; place = At (at + r.width) } ≡ date_offset s edition (At at)
  unfolding date_taken fixed_taken nth_taken easter_taken
  date-ahead edition r e = by (eqb (part w 62 2) 0) (eqb (part w 62 2) 1) (eqb (part w 62 2) 2) refl refl refl e
    where
      by : (a b c : Bool) → eqb (part w 62 2) 0 ≡ a → eqb (part w 62 2) 1 ≡ b → eqb (part w 62 2) 2 ≡ c
          → cond a (fixed_taken w) (cond b (nth_taken w) (cond c (easter_taken w) None)) ≡ Some r
          → record { item = r.item; place = At (at + r.width) } ≡ date_offset s edition (At at)
      by true b c i j k f =
          let d = chosen _ _ r f in
          let g = both _ _ d.0 in
          rw d.1 (behind edition 26 28 _ (omega arith) (omega arith) (form 0 _ (eqb-true _ _ i) (omega arith) (fixed-ahead g.0)) g.1)
      by false true c i j k f =
          let d = chosen _ _ r f in
          let g = both _ _ d.0 in
          rw d.1 (behind edition 28 26 _ (omega arith) (omega arith) (form 1 _ (eqb-true _ _ j) (omega arith) (nth-ahead g.0)) g.1)
      by false false true i j k f =
          let d = chosen _ _ r f in
          let g = both _ _ d.0 in
          rw d.1 (behind edition 17 37 _ (omega arith) (omega arith) (form 2 _ (eqb-true _ _ k) (omega arith) (easter-ahead g.0)) g.1)
      by false false false i j k f = absurd (none-some _ f)

-- two times, the second behind the first
pub span-ahead : (s : List ℕ) (at w v : ℕ) (a b : Taken Time) → Front s at w → time_taken w ≡ Some a → Front s (at + a.width) v → time_taken v ≡ Some b
    → record { item = record { start = a.item; end = b.item }; place = At (at + a.width + b.width) } ≡ span_at s (At at)
span-ahead s at w v a b x e y f = span-made s (At at) _ _ (time-ahead s at w x a e) (time-ahead s (at + a.width) v y b f)

-- tag 2 and two dates, the second behind the first
pub dates-ahead : (s : List ℕ) (edition at w u v : ℕ) (a b : Taken DateOffset) → Front s at w → part w 62 2 ≡ 2 → Front s (at + 2) u → date_taken u ≡ Some a
    → Front s (at + 2 + a.width) v → date_taken v ≡ Some b
    → record { item = record { form = Dates a.item b.item }; place = At (at + 2 + a.width + b.width) } ≡ monthday_at s edition (At at)
unfolding monthday_at
dates-ahead s edition at w u v a b x t y e z f =
    dates-made s (At (at + 2)) edition _ _ (date-ahead s (at + 2) u y edition a e) (date-ahead s (at + 2 + a.width) v z edition b f)
    ∙ ap (λ (k : ℕ). monthday_form s edition k (At (at + 2))) (sym t)
    ∙ ap (λ (k : Read ℕ). monthday_form s edition k.item k.place) (tag-two s at w x (omega arith))

-- The same as a reader finds them: a word taken from the image, and what was taken out of it.
module _ (s : List ℕ) (at w : ℕ) (h : at / 8 + 8 ≤ length s) (e : w ≡ ahead_of s at) where
  pub year-found : (r : Taken YearItem) → year_taken w ≡ Some r → record { item = r.item; place = At (at + r.width) } ≡ year_at s (At at)
  unfolding year_taken
  year-found r i = let c = chosen (year_good w) _ r i in rw c.1 (year-ahead s at w (front s at w h e) c.0)

  pub week-found : (r : Taken WeekItem) → week_taken w ≡ Some r → record { item = r.item; place = At (at + r.width) } ≡ week_at s (At at)
  unfolding week_taken
  week-found r i = let c = chosen (week_good w) _ r i in rw c.1 (week-ahead s at w (front s at w h e) c.0)

  pub weekday-found : (r : Taken WeekdayItem) → weekday_taken w ≡ Some r → record { item = r.item; place = At (at + r.width) } ≡ weekday_item_at s (At at)
  weekday-found r i = weekday-ahead s at w (front s at w h e) r i

  pub span-found : (v : ℕ) (a b : Taken Time) → time_taken w ≡ Some a → (at + a.width) / 8 + 8 ≤ length s → v ≡ ahead_of s (at + a.width) → time_taken v ≡ Some b
      → record { item = record { start = a.item; end = b.item }; place = At (at + a.width + b.width) } ≡ span_at s (At at)
  span-found v a b i j f k = span-ahead s at w v a b (front s at w h e) i (front s (at + a.width) v j f) k

  pub dates-found : (edition u v : ℕ) (a b : Taken DateOffset) → part w 62 2 ≡ 2 → (at + 2) / 8 + 8 ≤ length s → u ≡ ahead_of s (at + 2) → date_taken u ≡ Some a
      → (at + 2 + a.width) / 8 + 8 ≤ length s → v ≡ ahead_of s (at + 2 + a.width) → date_taken v ≡ Some b
      → record { item = record { form = Dates a.item b.item }; place = At (at + 2 + a.width + b.width) } ≡ monthday_at s edition (At at)
  dates-found edition u v a b t i f k j g o =
      dates-ahead s edition at w u v a b (front s at w h e) t (front s (at + 2) u i f) k (front s (at + 2 + a.width) v j g) o
