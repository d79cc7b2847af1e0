-- The reading's parts, put together from the last to the first; the end of an image by its cases.
use mathlib.Core.Path.{◌≡◌, refl}
use mathlib.Core.Bool.{Bool, true, false}
use mathlib.Core.List.{List, ◌++◌}
use Prim.Native.Nat.{ℕ, zero, suc, ◌+◌, ◌-◌, ◌/◌, ◌<◌, ◌≤◌}
use native.Mathlib.Numerals.{add-one}
use native.Mathlib.Omega.{arith}
use lib.Dec.{ltb}
use Rattle.bits.proofs.ReadLaws.{read_is, refused-is, coded, too-low, too-high}
use borrow.Author.Tests.{lt-ltb, le-ltb, ltb-true, ltb-false}
use lib.ListN.{length, replicate, take, drop}
use Rattle.refusals.specs.declared.Cause.TheVariants.{NoMeaning, PastLimits, NotEnded}
use Rattle.refusals.specs.declared.Cause.{Cause}
use Rattle.std.specs.Prelude.{Result, Ok, Err, IsErrAnd}
use Rattle.std.proofs.lemmas.Result.{err_from_is_err_and}
use Rattle.refusals.specs.declared.Refusal.{Refusal}
use Rattle.bits.specs.declared.Reading.{Reading}
use Rattle.bits.specs.Place.{Number, outcome, read_at, Place, At, Refused, Read, within, number_of, number_at}
use Rattle.rules.specs.Nothing.{no_rule}
use Rattle.rules.specs.declared.Rule.{Rule}
use Rattle.rules.specs.declared.Sheet.{Sheet}
use Rattle.rule_lists.proofs.ListLaws.{rule-stays, listed-stays, in-room}
use Rattle.rule_image.specs.Listed.{listed}
use Rattle.rule_image.specs.RuleAt.{rule_at}
use Rattle.rule_image.specs.Reading.{stand, rules_at, header_at, sheet_at, fill_bits, ended, filled, reading}
use Rattle.rule_image.specs.declared.Header.{Header}

-- a code with one meaning
pub alone : (k v : ℕ) → (v ≡ k → ⊥) → within k k v ≡ false
alone k v h = by (ltb v k) refl
  where
    by : (b : Bool) → ltb v k ≡ b → within k k v ≡ false
    by true e = too-low k k v (ltb-true v k e)
    by false e = let l : k ≤ v = ltb-false v k e in too-high k k v (omega arith)

pub edition_kept : (s : List ℕ) (at : ℕ) (r : Reading ℕ) → Number (Ok r) s at 4 0 15 NoMeaning → r.item ≡ 1 → Number (Ok r) s at 4 1 1 NoMeaning
edition_kept s at r n h = coded s 4 1 1 15 (omega arith) at r n (omega arith) (omega arith)

pub reserved_kept : (s : List ℕ) (at : ℕ) (r : Reading ℕ) → Number (Ok r) s at 6 0 63 NoMeaning → r.item ≡ 0 → Number (Ok r) s at 6 0 0 NoMeaning
reserved_kept s at r n h = coded s 6 0 0 63 (omega arith) at r n (omega arith) (omega arith)

pub header_made : (s : List ℕ) (e v n : Read ℕ) → e ≡ number_at s (At 0) 4 1 1 NoMeaning → v ≡ number_at s e.place 6 0 0 NoMeaning → n ≡ number_at s v.place 6 0 32 PastLimits
    → record { item = record { edition = e.item; count = n.item }; place = n.place } ≡ header_at s
unfolding header_at
header_made s e v n f g h = rw (h, g, f)

sheet-made : (s : List ℕ) (h : Read Header) (r : Read (List Rule)) → h ≡ header_at s → r ≡ rules_at s h.item.edition h.place h.item.count
    → record { item = record { count = h.item.count; rules = r.item }; place = r.place } ≡ sheet_at s
unfolding sheet_at header_at
sheet-made s h r f g = rw (g, f)

-- a refusal among the fill bits stays to their end
fill_next : (s : List ℕ) (p : Place) (n : ℕ) (c : Cause) (b : ℕ) → fill_bits s p n ≡ Refused c b → fill_bits s p (suc n) ≡ Refused c b
unfolding fill_bits number_of read_at
fill_next s p n c b e = rw (fill_bits, e) refl

fill_left : (s : List ℕ) (p : Place) (k n : ℕ) (c : Cause) (b : ℕ) → fill_bits s p k ≡ Refused c b → fill_bits s p (n + k) ≡ Refused c b
fill_left s p k zero c b e = let q : 0 + k ≡ k = omega arith in rw q e
fill_left s p k (suc n) c b e = let q : suc n + k ≡ suc (n + k) = omega arith in rw q (fill_next s p (n + k) c b (fill_left s p k n c b e))

-- one fill bit that is not zero
pub fill_refused : (s : List ℕ) (p : Place) (q k n : ℕ) (e : Refusal) → fill_bits s p k ≡ At q → Err e ≡ outcome (number_at s (At q) 1 0 0 NotEnded) → k < n
    → fill_bits s p n ≡ Refused e.cause e.place
unfolding fill_bits
fill_refused s p q k n e f g h =
    let i : fill_bits s p (suc k) ≡ Refused e.cause e.place = rw (fill_bits, f) (refused-is e _ g) in
    let j : n ≡ n - suc k + suc k = omega arith in
    rw j (fill_left s p (suc k) (n - suc k) e.cause e.place i)

-- one that is
pub fill-more : (s : List ℕ) (p : Place) (q k : ℕ) (r : Reading ℕ) → fill_bits s p k ≡ At q → Ok r ≡ outcome (number_at s (At q) 1 0 0 NotEnded) → fill_bits s p (k + 1) ≡ At r.end
unfolding fill_bits
fill-more s p q k r f g = rw (add-one, fill_bits, f, ← read_is r _ g) refl

pub end_more : (s : List ℕ) (a : ℕ) → a / 8 < length s → ended s (At a) ≡ Refused NotEnded a
unfolding ended
end_more s a h = rw (lt-ltb (a / 8) (length s) h) refl

pub end-here : (s : List ℕ) (a : ℕ) → length s ≤ a / 8 → ended s (At a) ≡ At a
unfolding ended
end-here s a h = rw (le-ltb (a / 8) (length s) h) refl

-- an answer back as a place
pub stood : (p : Place) (a : ℕ) → Ok a ≡ stand p → p ≡ At a
stood (At b) a e = cc
stood (Refused c b) a e = let z : ◌≡◌ {A = ℕ} 0 1 = cc in absurd (omega arith)

pub fallen : (p : Place) (e : Refusal) → Err e ≡ stand p → p ≡ Refused e.cause e.place
fallen (At a) e f = let z : ◌≡◌ {A = ℕ} 0 1 = cc in absurd (omega arith)
fallen (Refused c b) e f = cc

pub answered : (p : Place) (r : Result ℕ Refusal) (e : Refusal) → IsErrAnd r (λ y. y ≡ e) → p ≡ Refused e.cause e.place → r ≡ stand p
answered p r e h f = let i = err_from_is_err_and r h in rw (i.1, i.2, f) refl

-- A sheet is refused where one of its parts is.
module _ (s : List ℕ) where
  left-head : (c : Cause) (b : ℕ) → (header_at s).place ≡ Refused c b → (sheet_at s).place ≡ Refused c b
  unfolding sheet_at header_at
  left-head c b f = rw f (listed-stays _ (rule-stays s _) _ _ c b)

  left-rules : (h : Read Header) (c : Cause) (b : ℕ) → h ≡ header_at s → (rules_at s h.item.edition h.place h.item.count).place ≡ Refused c b → (sheet_at s).place ≡ Refused c b
  left-rules h c b f g = rw (← sheet-made s h _ f refl) g

  left-sheet : (c : Cause) (b : ℕ) → (sheet_at s).place ≡ Refused c b → (reading s).place ≡ Refused c b
  unfolding reading filled fill_bits ended
  left-sheet c b f = rw f refl

  left-end : (r : Read Sheet) (c : Cause) (b : ℕ) → r ≡ sheet_at s → filled s r.place ≡ Refused c b → (reading s).place ≡ Refused c b
  unfolding reading
  left-end r c b f g = rw (← f) g

  -- the answer of one who hands a refusal on
  answers : (r : Result (Reading Sheet) Refusal) (e : Refusal) → IsErrAnd r (λ y. y ≡ e) → (reading s).place ≡ Refused e.cause e.place → r ≡ outcome (reading s)
  answers r e h f = let i = err_from_is_err_and r h in rw (i.1, i.2, f) refl

  pub refused-head : (r : Result (Reading Sheet) Refusal) (e : Refusal) → IsErrAnd r (λ y. y ≡ e) → Err e ≡ outcome (header_at s) → r ≡ outcome (reading s)
  refused-head r e h f = answers r e h (left-sheet e.cause e.place (left-head e.cause e.place (refused-is e _ f)))

  pub refused-rules : (r : Result (Reading Sheet) Refusal) (h : Reading Header) (e : Refusal) → IsErrAnd r (λ y. y ≡ e) → Ok h ≡ outcome (header_at s)
      → (rules_at s h.item.edition (At h.end) h.item.count).place ≡ Refused e.cause e.place → r ≡ outcome (reading s)
  refused-rules r h e i f g = answers r e i (left-sheet e.cause e.place (left-rules _ e.cause e.place (read_is h _ f) g))

  -- the sheet, and where its rules end
  whole : (h : Reading Header) (l : List Rule) (a : ℕ) → Ok h ≡ outcome (header_at s) → record { item = l; place = At a } ≡ rules_at s h.item.edition (At h.end) h.item.count
      → record { item = record { count = h.item.count; rules = l }; place = At a } ≡ sheet_at s
  whole h l a f g = sheet-made s (record { item = h.item; place = At h.end }) (record { item = l; place = At a }) (read_is h _ f) g

  pub refused-end : (r : Result (Reading Sheet) Refusal) (h : Reading Header) (l : List Rule) (a : ℕ) (e : Refusal) → IsErrAnd r (λ y. y ≡ e) → Ok h ≡ outcome (header_at s)
      → record { item = l; place = At a } ≡ rules_at s h.item.edition (At h.end) h.item.count → Err e ≡ stand (filled s (At a)) → r ≡ outcome (reading s)
  refused-end r h l a e i f g k = answers r e i (left-end _ e.cause e.place (whole h l a f g) (fallen _ e k))

  pub accepted : (h : Reading Header) (l : List Rule) (a z : ℕ) → Ok h ≡ outcome (header_at s)
      → record { item = l; place = At a } ≡ rules_at s h.item.edition (At h.end) h.item.count → Ok z ≡ stand (filled s (At a))
      → Ok (record { item = record { count = h.item.count; rules = l }; end = z }) ≡ outcome (reading s)
  unfolding reading
  accepted h l a z f g k = rw (← whole h l a f g, stood _ z k) refl

-- the first n of a sheet's rules, which no rules stand behind
module _ (s : List ℕ) (edition : ℕ) (a : Rule) (e : a ≡ no_rule) (p : Place) (n : ℕ) (h : n ≤ 32) where
  pub rules-set : (l : List Rule) (q : Place) → record { item = l; place = q } ≡ listed (rule_at s edition) (take n (replicate 32 a)) p (length (take n (replicate 32 a)))
      → record { item = l ++ drop n (replicate 32 a); place = q } ≡ rules_at s edition p n
  rules-set l q g = rw (← e, in-room (rule_at s edition) p (replicate 32 a) n h, ← g) refl

  pub rules-left : (c : Cause) (b : ℕ) → (listed (rule_at s edition) (take n (replicate 32 a)) p (length (take n (replicate 32 a)))).place ≡ Refused c b
      → (rules_at s edition p n).place ≡ Refused c b
  rules-left c b g = rw (← e, in-room (rule_at s edition) p (replicate 32 a) n h) g
