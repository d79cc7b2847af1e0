-- The parts of a rule, put together from the last to the first; one more item of a list.
use mathlib.Core.Path.{◌≡◌, refl, ap, sym, ◌∙◌}
use mathlib.Core.Bool.{Bool, true, false}
use mathlib.Core.List.{List, ◌++◌}
use Prim.Native.Nat.{ℕ, zero, suc, ◌+◌, ◌*◌, ◌/◌, ◌<◌, ◌≤◌}
use native.Mathlib.Numerals.{add-one}
use native.Mathlib.Omega.{arith}
use lib.ListN.{set, replicate, length, take, drop}
use lib.Dec.{eqb}
use borrow.Author.Tests.{eqb-true, eqb-false}
use Rattle.std.proofs.lemmas.List.{set-append_left, length-set, length-take-le, take-append-drop}
use Rattle.refusals.specs.declared.Cause.{Cause}
use Rattle.refusals.specs.declared.Cause.TheVariants.{PastLimits}
use Rattle.std.specs.Prelude.{Option, Some, Ok, IfSome}
use Rattle.std.proofs.lemmas.Option.{IfSome_then}
use Rattle.bits.specs.Bits.{ahead_of}
use Rattle.bits.specs.declared.Reading.{Reading}
use Rattle.rule_words.specs.declared.Taken.{Taken}
use Rattle.bits.specs.Place.{Place, At, Refused, Read, Found, outcome, number_of, number_at, read_at}
use Rattle.bits.proofs.ReadLaws.{Stays}
use Rattle.rules.specs.declared.Operator.{Operator}
use Rattle.rules.specs.declared.YearItem.{YearItem}
use Rattle.rules.specs.declared.MonthdayItem.{MonthdayItem}
use Rattle.rules.specs.declared.WeekItem.{WeekItem}
use Rattle.rules.specs.declared.WeekdayItem.{WeekdayItem}
use Rattle.rules.specs.declared.TimeSpan.{TimeSpan}
use Rattle.rule_items.specs.Codes.{operator_at, kind_at}
use Rattle.rule_items.proofs.ItemLaws.{year-stays, week-stays, monthday-stays, weekday-item-stays, span-stays}
use Rattle.rule_lists.specs.Listed.{listed, Fronted}
use Rattle.rule_lists.specs.RuleAt.{head_at, count_at, counts_at, years_at, monthdays_at, weeks_at, weekdays_at, spans_at, rule_of, rule_at}
use Rattle.rule_lists.specs.declared.Head.{Head}
use Rattle.rule_lists.specs.declared.Counts.{Counts}

-- one item more
pub listed-step : {A : Type 0} (f : Place → Read A) (room : List A) (p : Place) (k : ℕ) (l : List A) (q : Place) (y : Read A)
    → record { item = l; place = q } ≡ listed f room p k → y ≡ f q → record { item = set l k y.item; place = y.place } ≡ listed f room p (k + 1)
unfolding listed
listed-step f room p k l q y e g = rw (add-one, listed, ← e, g)

pub listed-none : {A : Type 0} (f : Place → Read A) (m : ℕ) (none a : A) (p : Place) → a ≡ none → record { item = replicate m a; place = p } ≡ listed f (replicate m none) p 0
unfolding listed
listed-none {A} f m none a p e = ap (λ (x : A). record { item = replicate m x; place = p }) e

-- a list is refused as its first refused item is
module _ {A : Type 0} (f : Place → Read A) (stays : Stays f) (room : List A) (p : Place) (i : ℕ) (l : List A) (q : Place) (c : Cause) (b : ℕ)
    (e : record { item = l; place = q } ≡ listed f room p i) (g : (f q).place ≡ Refused c b) where
  pub listed-left : (k : ℕ) → i < k → (listed f room p k).place ≡ Refused c b
  unfolding listed
  listed-left zero h = absurd (omega arith)
  listed-left (suc k) h = by (eqb i k) refl (listed-left k)
    where
      by : (t : Bool) → eqb i k ≡ t → (i < k → (listed f room p k).place ≡ Refused c b) → (f (listed f room p k).place).place ≡ Refused c b
      by true j r = rw (← eqb-true i k j, ← e) g
      by false j r =
          let n : i < k = omega (arith, eqb-false i k j) in
          rw (r n) (stays c b)

-- a list that begins refused stays refused
pub listed-stays : {A : Type 0} (f : Place → Read A) → Stays f → (room : List A) (k : ℕ) → Stays (λ p. listed f room p k)
unfolding listed
listed-stays f stays room zero c b = refl
listed-stays f stays room (suc k) c b = rw (listed-stays f stays room k c b) (stays c b)

-- items set into the front of a room, and what stands behind them
module _ {A : Type 0} (f : Place → Read A) (p : Place) where
  kept-length : (a : List A) (k : ℕ) → length (listed f a p k).item ≡ length a
  unfolding listed
  kept-length a zero = refl
  kept-length a (suc k) = length-set _ k _ ∙ kept-length a k

  in-front : (a b : List A) (k : ℕ) → k ≤ length a → listed f (a ++ b) p k ≡ record { item = (listed f a p k).item ++ b; place = (listed f a p k).place }
  unfolding listed
  in-front a b zero h = refl
  in-front a b (suc k) h =
      let l : k < length (listed f a p k).item = omega (arith, kept-length a k) in
      rw (in-front a b k (omega arith), set-append_left) refl

  pub in-room : (room : List A) (n : ℕ) → n ≤ length room
      → listed f room p n
      ≡ record { item = (listed f (take n room) p (length (take n room))).item ++ drop n room; place = (listed f (take n room) p (length (take n room))).place }
  in-room room n h =
      let e : length (take n room) ≡ n = length-take-le n room h in
      rw e (ap (λ (r : List A). listed f r p n) (sym (take-append-drop n room)) ∙ in-front (take n room) (drop n room) n (omega (arith, e)))

  -- the first n of eight, which the rules' fill stands behind
  module _ (none a : A) (e : a ≡ none) (n : ℕ) (h : n ≤ 8) where
    pub set-out : (l : List A) (q : Place) → record { item = l; place = q } ≡ listed f (take n (replicate 8 a)) p (length (take n (replicate 8 a)))
        → record { item = l ++ drop n (replicate 8 a); place = q } ≡ listed f (replicate 8 none) p n
    set-out l q g = rw (← e, in-room (replicate 8 a) n h, ← g) refl

    pub left-out : (c : Cause) (b : ℕ) → (listed f (take n (replicate 8 a)) p (length (take n (replicate 8 a)))).place ≡ Refused c b
        → (listed f (replicate 8 none) p n).place ≡ Refused c b
    left-out c b g = rw (← e, in-room (replicate 8 a) n h) g

-- no more of a room than its count
pub counted : {A : Type 0} (a : A) (n w : ℕ) → n ≤ 8 → w * length (take n (replicate 8 a)) ≡ w * n
counted a n w h = ap (λ (k : ℕ). w * k) (length-take-le n (replicate 8 a) h)

module _ (s : List ℕ) (p : Place) where
  pub head-made : (o : Read Operator) (k c : Read ℕ) → o ≡ operator_at s p → k ≡ kind_at s o.place → c ≡ number_at s k.place 8 0 255 PastLimits
      → record { item = record { operator = o.item; kind = k.item; comment = c.item }; place = c.place } ≡ head_at s p
  unfolding head_at
  head-made o k c e f g = rw (g, f, e)

  pub counts-made : (y m w d t : Read ℕ) → y ≡ count_at s p → m ≡ count_at s y.place → w ≡ count_at s m.place → d ≡ count_at s w.place → t ≡ count_at s d.place
      → record { item = record { years = y.item; monthdays = m.item; weeks = w.item; weekdays = d.item; spans = t.item }; place = t.place } ≡ counts_at s p
  unfolding counts_at
  counts-made y m w d t e1 e2 e3 e4 e5 = rw (e5, e4, e3, e2, e1)

  pub rule-made : (edition : ℕ) (h : Read Head) (c : Read Counts) (ys : Read (List YearItem)) (ms : Read (List MonthdayItem)) (ws : Read (List WeekItem))
      (ds : Read (List WeekdayItem)) (ts : Read (List TimeSpan))
      → h ≡ head_at s p → c ≡ counts_at s h.place → ys ≡ years_at s c.place c.item.years → ms ≡ monthdays_at s edition ys.place c.item.monthdays
      → ws ≡ weeks_at s ms.place c.item.weeks → ds ≡ weekdays_at s ws.place c.item.weekdays → ts ≡ spans_at s ds.place c.item.spans
      → record { item = rule_of h.item c.item ys.item ms.item ws.item ds.item ts.item; place = ts.place } ≡ rule_at s edition p
  unfolding rule_at
  rule-made edition h c ys ms ws ds ts e1 e2 e3 e4 e5 e6 e7 = rw (e7, e6, e5, e4, e3, e2, e1)

-- A rule is refused where one of its parts is.
module _ (s : List ℕ) (p : Place) (edition : ℕ) (k : Cause) (b : ℕ) where
  in-spans : (q : Place) (n : ℕ) → q ≡ Refused k b → (spans_at s q n).place ≡ Refused k b
  in-spans q n e = rw e (listed-stays _ (span-stays s) _ n k b)

  in-weekdays : (q : Place) (n t : ℕ) → q ≡ Refused k b → (spans_at s (weekdays_at s q n).place t).place ≡ Refused k b
  in-weekdays q n t e = in-spans _ t (rw e (listed-stays _ (weekday-item-stays s) _ n k b))

  in-weeks : (q : Place) (n d t : ℕ) → q ≡ Refused k b → (spans_at s (weekdays_at s (weeks_at s q n).place d).place t).place ≡ Refused k b
  in-weeks q n d t e = in-weekdays _ d t (rw e (listed-stays _ (week-stays s) _ n k b))

  in-monthdays : (q : Place) (n w d t : ℕ) → q ≡ Refused k b
      → (spans_at s (weekdays_at s (weeks_at s (monthdays_at s edition q n).place w).place d).place t).place ≡ Refused k b
  in-monthdays q n w d t e = in-weeks _ w d t (rw e (listed-stays _ (monthday-stays s edition) _ n k b))

  in-years : (q : Place) (n m w d t : ℕ) → q ≡ Refused k b
      → (spans_at s (weekdays_at s (weeks_at s (monthdays_at s edition (years_at s q n).place m).place w).place d).place t).place ≡ Refused k b
  in-years q n m w d t e = in-monthdays _ m w d t (rw e (listed-stays _ (year-stays s) _ n k b))

  counts-stay : (q : Place) → q ≡ Refused k b → (counts_at s q).place ≡ Refused k b
  unfolding counts_at number_of read_at
  counts-stay q e = rw e refl

  pub head-left : (head_at s p).place ≡ Refused k b → (rule_at s edition p).place ≡ Refused k b
  unfolding rule_at
  head-left r = in-years _ _ _ _ _ _ (counts-stay _ r)

  module _ (h : Read Head) (e1 : h ≡ head_at s p) where
    pub counts-left : (counts_at s h.place).place ≡ Refused k b → (rule_at s edition p).place ≡ Refused k b
    unfolding rule_at
    counts-left r = rw (← e1) (in-years _ _ _ _ _ _ r)

    module _ (c : Read Counts) (e2 : c ≡ counts_at s h.place) where
      pub years-left : (years_at s c.place c.item.years).place ≡ Refused k b → (rule_at s edition p).place ≡ Refused k b
      unfolding rule_at
      years-left r = rw (← e1, ← e2) (in-monthdays _ _ _ _ _ r)

      module _ (ys : Read (List YearItem)) (e3 : ys ≡ years_at s c.place c.item.years) where
        pub monthdays-left : (monthdays_at s edition ys.place c.item.monthdays).place ≡ Refused k b → (rule_at s edition p).place ≡ Refused k b
        unfolding rule_at
        monthdays-left r = rw (← e1, ← e2, ← e3) (in-weeks _ _ _ _ r)

        module _ (ms : Read (List MonthdayItem)) (e4 : ms ≡ monthdays_at s edition ys.place c.item.monthdays) where
          pub weeks-left : (weeks_at s ms.place c.item.weeks).place ≡ Refused k b → (rule_at s edition p).place ≡ Refused k b
          unfolding rule_at
          weeks-left r = rw (← e1, ← e2, ← e3, ← e4) (in-weekdays _ _ _ r)

          module _ (ws : Read (List WeekItem)) (e5 : ws ≡ weeks_at s ms.place c.item.weeks) where
            pub weekdays-left : (weekdays_at s ws.place c.item.weekdays).place ≡ Refused k b → (rule_at s edition p).place ≡ Refused k b
            unfolding rule_at
            weekdays-left r = rw (← e1, ← e2, ← e3, ← e4, ← e5) (in-spans _ _ r)

            pub spans-left : (ds : Read (List WeekdayItem)) → ds ≡ weekdays_at s ws.place c.item.weekdays → (spans_at s ds.place c.item.spans).place ≡ Refused k b
                → (rule_at s edition p).place ≡ Refused k b
            unfolding rule_at
            spans-left ds e6 r = rw (← e1, ← e2, ← e3, ← e4, ← e5, ← e6) r

pub rule-stays : (s : List ℕ) (edition : ℕ) → Stays (rule_at s edition)
unfolding head_at operator_at number_of read_at
rule-stays s edition c b = head-left s (Refused c b) edition c b refl

-- what a taker finds is what is read there, where each word's finding is
pub at-front : {A : Type 0} (finds : ℕ → Option (Taken A) → Type 0) (s : List ℕ) (at w : ℕ) (f : Place → Read A)
    → ((word : ℕ) (t : Taken A) → at / 8 + 8 ≤ length s → word ≡ ahead_of s at → finds word (Some t)
    → (record { item = t.item; place = At (at + t.width) } ≡ f (At at)) × (t.width ≤ w))
    → (r : Option (Reading A)) → IfSome r (Fronted finds s at) → IfSome r (λ x. Found (Ok x) (f (At at)) at w)
at-front finds s at w f each r h =
    IfSome_then r {P = Fronted finds s at} h
    (λ x k.
    let g = each k.word k.taken k.left k.ahead k.found in
    rw k.is (record { is = ap outcome g.0; near = omega (arith, g.1) }))
