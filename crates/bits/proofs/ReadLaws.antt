-- Laws of a field that is read where a reading stands, once over what the field means: by its cases, and back from an accepted end.
use mathlib.Core.Path.{◌≡◌, refl, ap, ◌∙◌}
use mathlib.Core.List.{List}
use mathlib.Core.Bool.{Bool, true, false, cond, ◌&&◌}
use Prim.Native.Nat.{ℕ, ◌+◌, ◌*◌, ◌/◌, ◌^◌, ◌<◌, ◌≤◌}
use native.Mathlib.Omega.{arith}
use borrow.Author.Tests.{lt-leb, le-leb, leb-true, leb-false, ltb-true, ltb-false}
use lib.Dec.{leb, ltb}
use lib.Pow.{pow_mono}
use lib.IntN.{ℤ, pos, negsuc, nat_abs}
use lib.Signed.{mag}
use mir.Syntax.{w16}
use mir.Val.{to_z, of_z}
use Rattle.bits.specs.Bits.{field_at}
use Rattle.bits.specs.Signed.{signed_of, Below}
use Rattle.std.specs.Prelude.{Option, Some, None, Result, Ok, Err, IsErrAnd}
use Rattle.std.proofs.lemmas.Result.{err_from_is_err_and, IfOk-weaker}
use Rattle.refusals.specs.declared.Cause.{Cause}
use Rattle.refusals.specs.declared.Cause.TheVariants.{PastEnd, NoMeaning, PastLimits}
use Rattle.refusals.specs.declared.Refusal.{Refusal}
use Rattle.refusals.specs.Numbers.{refused}
use Rattle.bits.specs.Place.{Place, PlaceOf, At, Refused, Read, ReadOf, untaken, judged, read_at, within, at_most, number_of, number_at, signed_at, answer_at, answered, outcome, stated, Found, NumberOf, Number}
use Rattle.bits.specs.declared.Reading.{Reading}
use Rattle.bits.proofs.BitsLaws.{value-lt}
use Rattle.bits.proofs.SignLaws.{same16, over, under}

-- the three cases of a field at a bit
read_past : {C A : Type 0} (none : A) (right : ℕ → Bool) (means : ℕ → A) (past cause : C) (w : ℕ) (s : List ℕ) (at : ℕ) → field_at s at w ≡ None
    → record { item = none; place = Refused past at } ≡ read_at none right means past cause w s (At at)
unfolding read_at judged
read_past none right means past cause w s at e = rw e

read-wrong : {C A : Type 0} (none : A) (right : ℕ → Bool) (means : ℕ → A) (past cause : C) (w : ℕ) (s : List ℕ) (at v : ℕ) → field_at s at w ≡ Some v → right v ≡ false
    → record { item = none; place = Refused cause at } ≡ read_at none right means past cause w s (At at)
unfolding read_at judged
read-wrong none right means past cause w s at v e f = rw (e, f)

pub read_right : {C A : Type 0} (none : A) (right : ℕ → Bool) (means : ℕ → A) (past cause : C) (w : ℕ) (s : List ℕ) (at v : ℕ) → field_at s at w ≡ Some v → right v ≡ true
    → record { item = means v; place = At (at + w) } ≡ read_at none right means past cause w s (At at)
unfolding read_at judged
read_right none right means past cause w s at v e f = rw (e, f)

pub too-low : (lo hi v : ℕ) → v < lo → within lo hi v ≡ false
too-low lo hi v h = rw (lt-leb lo v h)

pub too-high : (lo hi v : ℕ) → hi < v → within lo hi v ≡ false
too-high lo hi v h = by (leb lo v)
  where
    by : (b : Bool) → b && leb v hi ≡ false
    by true = lt-leb v hi h
    by false = refl

pub in-range : (lo hi v : ℕ) → lo ≤ v → v ≤ hi → within lo hi v ≡ true
in-range lo hi v h k = rw (le-leb lo v h, le-leb v hi k)

pub within_in : (lo hi v : ℕ) → within lo hi v ≡ true → (lo ≤ v) × (v ≤ hi)
within_in lo hi v e = by (leb lo v) (leb v hi) refl refl e
  where
    by : (a b : Bool) → leb lo v ≡ a → leb v hi ≡ b → a && b ≡ true → (lo ≤ v) × (v ≤ hi)
    by true true i j k = (leb-true lo v i, leb-true v hi j)
    by true false i j k = let z : ◌≡◌ {A = ℕ} 0 1 = cc in absurd (omega arith)
    by false b i j k = let z : ◌≡◌ {A = ℕ} 0 1 = cc in absurd (omega arith)

-- what an answer says of the reading: an accepted one what it read and where it ended, a refused one where it is refused
pub read_is : {A : Type 0} (r : Reading A) (spec : Read A) → Ok r ≡ outcome spec → ◌≡◌ {A = Read A} (record { item = r.item; place = At r.end }) spec
read_is {A} r spec = by spec.place spec.item
  where
    by : (p : Place) (x : A) → Ok r ≡ answer_at p x → ◌≡◌ {A = Read A} (record { item = r.item; place = At r.end }) (record { item = x; place = p })
    by (At a) x e = cc
    by (Refused c b) x e = let z : ◌≡◌ {A = ℕ} 0 1 = cc in absurd (omega arith)

pub refused-is : {A : Type 0} (e : Refusal) (spec : Read A) → Err e ≡ outcome spec → spec.place ≡ Refused e.cause e.place
refused-is {A} e spec = by spec.place spec.item
  where
    by : (p : Place) (x : A) → Err e ≡ answer_at p x → p ≡ Refused e.cause e.place
    by (At a) x f = let z : ◌≡◌ {A = ℕ} 0 1 = cc in absurd (omega arith)
    by (Refused c b) x f = cc

-- and back: a refused reading is answered by its refusal
pub refusal-is : {A : Type 0} (e : Refusal) (spec : Read A) → spec.place ≡ Refused e.cause e.place → Err e ≡ outcome spec
refusal-is e spec f = rw f

pub found_refused : {A : Type 0} (e : Refusal) (spec : Read A) (at w : ℕ) → spec.place ≡ Refused e.cause e.place → Found (Err e) spec at w
found_refused e spec at w f = record { is = refusal-is e spec f; near = tt }

-- the same where a step's refusal is handed on
pub left : {A : Type 0} (r : Result (Reading A) Refusal) (e : Refusal) (spec : Read A) (at w : ℕ) → IsErrAnd r (λ y. y ≡ e)
    → spec.place ≡ Refused e.cause e.place → Found r spec at w
left r e spec at w h f = let p = err_from_is_err_and r h in rw (p.1, p.2) (found_refused e spec at w f)

pub left-number : (r : Result (Reading ℕ) Refusal) (e : Refusal) (s : List ℕ) (at w lo hi : ℕ) (cause : Cause) → IsErrAnd r (λ y. y ≡ e)
    → Number (Err e) s at w lo hi cause → Number r s at w lo hi cause
left-number r e s at w lo hi cause h n = let p = err_from_is_err_and r h in rw (p.1, p.2) n

-- what a reader's last step answers is the reader's answer
pub further : {A : Type 0} (r : Result (Reading A) Refusal) (spec whole : Read A) (p at v w : ℕ) → Found r spec p v → spec ≡ whole → p + v ≤ at + w → Found r whole at w
further r spec whole p at v w f e h =
    record {
      is = f.is ∙ ap outcome e;
      near = IfOk-weaker r (λ x. x.end ≤ p + v) (λ x. x.end ≤ at + w) (λ x k. omega arith) f.near;
    }

-- a value within its limits is the number
pub number-is : {C : Type 0} (s : List ℕ) (at w lo hi : ℕ) (past cause : C) (v : ℕ) → field_at s at w ≡ Some v → within lo hi v ≡ true
    → record { item = v; place = At (at + w) } ≡ number_of past s (At at) w lo hi cause
unfolding number_of
number-is s at w lo hi past cause v e h = read_right 0 (within lo hi) (λ (v : ℕ). v) past cause w s at v e h

-- The three cases as answers, in the words of who asks.
module _ {C R : Type 0} (past : C) (refuse : C → ℕ → R) (s : List ℕ) (at w lo hi : ℕ) (cause : C) where
  pub number_past : field_at s at w ≡ None → NumberOf past refuse (Err (refuse past at)) s (Ok at) w lo hi cause
  unfolding number_of
  number_past e = record { is = ap (answered refuse) (read_past 0 (within lo hi) (λ (v : ℕ). v) past cause w s at e); near = tt; top = tt }

  pub number-wrong : (v : ℕ) → field_at s at w ≡ Some v → within lo hi v ≡ false → NumberOf past refuse (Err (refuse cause at)) s (Ok at) w lo hi cause
  unfolding number_of
  number-wrong v e f = record { is = ap (answered refuse) (read-wrong 0 (within lo hi) (λ (v : ℕ). v) past cause w s at v e f); near = tt; top = tt }

  pub number-right : (v : ℕ) → field_at s at w ≡ Some v → within lo hi v ≡ true → NumberOf past refuse (Ok (record { item = v; end = at + w })) s (Ok at) w lo hi cause
  number-right v e h = record { is = ap (answered refuse) (number-is s at w lo hi past cause v e h); near = omega arith; top = (within_in lo hi v h).1 }

-- the answer of a number in other words is that of the number in those words
pub stated_number : {C R : Type 0} (says : Cause → C) (refuse : C → ℕ → R) (s : List ℕ) (at w lo hi : ℕ) (cause : Cause)
    → stated says refuse (outcome (number_at s (At at) w lo hi cause)) ≡ answered refuse (number_of (says PastEnd) s (At at) w lo hi (says cause))
unfolding number_of read_at judged
stated_number says refuse s at w lo hi cause = by (field_at s at w)
  where
    picked : (v : ℕ) (b : Bool) → stated says refuse (outcome (cond {A = Read ℕ} b (record { item = v; place = At (at + w) }) (record { item = 0; place = Refused cause at })))
        ≡ answered refuse (cond b (record { item = v; place = At (at + w) }) (record { item = 0; place = Refused (says cause) at }))
    picked v true = refl
    picked v false = refl

    by : (x : Option ℕ) → stated says refuse (outcome (judged 0 (within lo hi) (λ (v : ℕ). v) PastEnd cause w at x))
        ≡ answered refuse (judged 0 (within lo hi) (λ (v : ℕ). v) (says PastEnd) (says cause) w at x)
    by (Some v) = picked v (within lo hi v)
    by None = refl

module _ (s : List ℕ) (at w limit m : ℕ) (e : m ≡ 2 ^ w) where
  pub signed-past : field_at s at w ≡ None → Found (refused PastEnd at) (signed_at s (At at) w limit) at w
  unfolding signed_at
  signed-past f = record { is = ap outcome (read_past (pos 0) (λ (v : ℕ). at_most limit (signed_of (2 ^ w) v)) (signed_of (2 ^ w)) PastEnd PastLimits w s at f); near = tt }

  pub signed-far : (v n : ℕ) → field_at s at w ≡ Some v → n ≡ nat_abs (signed_of m v) → limit < n → Found (refused PastLimits at) (signed_at s (At at) w limit) at w
  unfolding signed_at
  signed-far v n f g h =
      let k : limit < nat_abs (signed_of (2 ^ w) v) = rw (← e, ← g) h in
      record {
        is = ap outcome
            (read-wrong (pos 0) (λ (v : ℕ). at_most limit (signed_of (2 ^ w) v)) (signed_of (2 ^ w)) PastEnd PastLimits w s at v f
            (lt-leb (nat_abs (signed_of (2 ^ w) v)) limit k));
        near = tt;
      }

  pub signed-near : (v n : ℕ) (z : ℤ) → field_at s at w ≡ Some v → n ≡ nat_abs (signed_of m v) → n ≤ limit → z ≡ signed_of m v → mag z < 2 ^ 15
      → Found (Ok (record { item = to_z w16 (of_z w16 z); end = at + w })) (signed_at s (At at) w limit) at w
  unfolding signed_at
  signed-near v n z f g h i j =
      let k : nat_abs (signed_of (2 ^ w) v) ≤ limit = rw (← e, ← g) h in
      let y : z ≡ signed_of (2 ^ w) v = rw (← e) i in
      record {
        is = rw (same16 z j, y)
            (ap outcome
            (read_right (pos 0) (λ (v : ℕ). at_most limit (signed_of (2 ^ w) v)) (signed_of (2 ^ w)) PastEnd PastLimits w s at v f
            (le-leb (nat_abs (signed_of (2 ^ w) v)) limit k)));
        near = omega arith;
      }

  -- what the sign extension asks
  pub full-lt : (v : ℕ) → field_at s at w ≡ Some v → v < m
  full-lt v f = omega (arith, value-lt s at w v f)

  pub full-small : w ≤ 15 → m ≤ 32768
  full-small h = omega (arith, pow_mono {j = 15} h)

untaken-in : {C : Type 0} (cause : C) (p q : PlaceOf C) (c : C) (b : ℕ) → q ≡ Refused c b → untaken cause p q ≡ Refused c b
unfolding untaken
untaken-in cause p q c b e = rw e

-- A code is read whole, from 0 to top, and then matched: the matched values are the number from lo to hi, the others refused for the same cause.
over-top : (top v : ℕ) → within 0 top v ≡ false → top < v
over-top top v h = leb-false v top (rw (le-leb 0 v (omega arith)) at h)

module _ {C : Type 0} (cause : C) (lo hi top w at v : ℕ) (h : hi ≤ top) where
  abbrev good : ReadOf C ℕ
  good = record { item = v; place = At (at + w) }

  abbrev bad : ReadOf C ℕ
  bad = record { item = 0; place = Refused cause at }

  picked-right : (b : Bool) → within 0 top v ≡ b → within lo hi (cond b good bad).item ≡ true → cond b good bad ≡ cond (within lo hi v) good bad
  picked-right true i j = rw j
  picked-right false i j = rw (too-high lo hi v (omega (arith, over-top top v i)))

  picked-wrong : (b : Bool) → within 0 top v ≡ b → within lo hi (cond b good bad).item ≡ false
      → record { item = 0; place = untaken cause (At at) (cond b good bad).place } ≡ cond (within lo hi v) good bad
  unfolding untaken
  picked-wrong true i j = rw j
  picked-wrong false i j = rw (too-high lo hi v (omega (arith, over-top top v i)))

module _ {C : Type 0} (past cause : C) (s : List ℕ) (w lo hi top : ℕ) (h : hi ≤ top) where
  judged-right : (at : ℕ) (f : Option ℕ) → within lo hi (judged 0 (within 0 top) (λ (v : ℕ). v) past cause w at f).item ≡ true
      → judged 0 (within 0 top) (λ (v : ℕ). v) past cause w at f ≡ judged 0 (within lo hi) (λ (v : ℕ). v) past cause w at f
  unfolding judged
  judged-right at None k = refl
  judged-right at (Some v) k = picked-right cause lo hi top w at v h (within 0 top v) refl k

  judged-wrong : (at : ℕ) (f : Option ℕ) → within lo hi (judged 0 (within 0 top) (λ (v : ℕ). v) past cause w at f).item ≡ false
      → record { item = 0; place = untaken cause (At at) (judged 0 (within 0 top) (λ (v : ℕ). v) past cause w at f).place } ≡ judged 0 (within lo hi) (λ (v : ℕ). v) past cause w at f
  unfolding judged untaken
  judged-wrong at None k = refl
  judged-wrong at (Some v) k = picked-wrong cause lo hi top w at v h (within 0 top v) refl k

  at_right : (p : PlaceOf C) → within lo hi (number_of past s p w 0 top cause).item ≡ true → number_of past s p w 0 top cause ≡ number_of past s p w lo hi cause
  unfolding number_of read_at
  at_right (At at) k = judged-right at (field_at s at w) k
  at_right (Refused c b) k = refl

  at-wrong : (p : PlaceOf C) → within lo hi (number_of past s p w 0 top cause).item ≡ false
      → record { item = 0; place = untaken cause p (number_of past s p w 0 top cause).place } ≡ number_of past s p w lo hi cause
  unfolding number_of read_at untaken
  at-wrong (At at) k = judged-wrong at (field_at s at w) k
  at-wrong (Refused c b) k = refl

  pub code-right : (p : PlaceOf C) (t : ReadOf C ℕ) → t ≡ number_of past s p w 0 top cause → within lo hi t.item ≡ true → t ≡ number_of past s p w lo hi cause
  code-right p t e k = e ∙ at_right p (rw e at k)

  pub code-wrong : (p : PlaceOf C) (t : ReadOf C ℕ) → t ≡ number_of past s p w 0 top cause → within lo hi t.item ≡ false → record { item = 0; place = untaken cause p t.place } ≡ number_of past s p w lo hi cause
  code-wrong p t e k = rw e (at-wrong p (rw e at k))

  -- what is refused before the match stays refused
  pub code-left : (p : PlaceOf C) (t : ReadOf C ℕ) (c : C) (b : ℕ) → t ≡ number_of past s p w 0 top cause → t.place ≡ Refused c b → (number_of past s p w lo hi cause).place ≡ Refused c b
  code-left p t c b e f = by (within lo hi t.item) refl
    where
      by : (x : Bool) → within lo hi t.item ≡ x → (number_of past s p w lo hi cause).place ≡ Refused c b
      by true k = rw (← code-right p t e k) f
      by false k = rw (← code-wrong p t e k) (untaken-in cause p t.place c b f)

-- The same as an answer.
module _ (s : List ℕ) (w lo hi top : ℕ) (h : hi ≤ top) where
  pub coded : (at : ℕ) (r : Reading ℕ) → Number (Ok r) s at w 0 top NoMeaning → lo ≤ r.item → r.item ≤ hi → Number (Ok r) s at w lo hi NoMeaning
  coded at r n k l = record { is = ap outcome (code-right PastEnd NoMeaning s w lo hi top h (At at) _ (read_is r _ n.is) (in-range lo hi r.item k l)); near = n.near; top = l }

  pub uncoded : (at : ℕ) (r : Reading ℕ) → Number (Ok r) s at w 0 top NoMeaning → within lo hi r.item ≡ false → Number (refused NoMeaning at) s at w lo hi NoMeaning
  unfolding untaken
  uncoded at r n k = record { is = ap outcome (code-wrong PastEnd NoMeaning s w lo hi top h (At at) _ (read_is r _ n.is) k); near = tt; top = tt }

  pub no-code : (at : ℕ) (e : Refusal) → Number (Err e) s at w 0 top NoMeaning → Number (Err e) s at w lo hi NoMeaning
  no-code at e n = record { is = refusal-is e _ (code-left PastEnd NoMeaning s w lo hi top h (At at) _ e.cause e.place refl (refused-is e _ n.is)); near = tt; top = tt }

-- A reading that keeps a refusal.
abbrev pub Stays : {A : Type 0} → (Place → Read A) → Type 0
Stays f = (c : Cause) (b : ℕ) → (f (Refused c b)).place ≡ Refused c b

-- A tag is matched so: each form by its number, and the first form at the refused place where no arm takes it.
module _ {C A : Type 0} (past cause : C) (form : ℕ → PlaceOf C → ReadOf C A) (s : List ℕ) (w hi top : ℕ) (h : hi ≤ top) (p : PlaceOf C) (t : ReadOf C ℕ)
    (e : t ≡ number_of past s p w 0 top cause) where
  pub tag-right : (n : ℕ) → t.item ≡ n → n ≤ hi → form n t.place ≡ form (number_of past s p w 0 hi cause).item (number_of past s p w 0 hi cause).place
  tag-right n f k =
      let g : t ≡ number_of past s p w 0 hi cause = code-right past cause s w 0 hi top h p t e (in-range 0 hi t.item (omega arith) (omega arith)) in
      rw (← g, f)

  pub tag-wrong : (q : PlaceOf C) → q ≡ untaken cause p t.place → hi < t.item → form 0 q ≡ form (number_of past s p w 0 hi cause).item (number_of past s p w 0 hi cause).place
  tag-wrong q f k = rw (f, ← code-wrong past cause s w 0 hi top h p t e (too-high 0 hi t.item k))

-- The same of an answer: a number without a form, and a tag that is refused, are refused in any form.
module _ {A : Type 0} (form : ℕ → Place → Read A) (s : List ℕ) (w hi top : ℕ) (h : hi ≤ top) (at : ℕ) where
  pub tag-read : (r : Reading ℕ) → Number (Ok r) s at w 0 top NoMeaning → (n : ℕ) → r.item ≡ n → n ≤ hi
      → form n (At r.end) ≡ form (number_at s (At at) w 0 hi NoMeaning).item (number_at s (At at) w 0 hi NoMeaning).place
  tag-read r t n f k = tag-right PastEnd NoMeaning form s w hi top h (At at) _ (read_is r _ t.is) n f k

  pub tag-refused : ((n : ℕ) → Stays (form n)) → (r : Reading ℕ) → Number (Ok r) s at w 0 top NoMeaning → hi < r.item
      → (form (number_at s (At at) w 0 hi NoMeaning).item (number_at s (At at) w 0 hi NoMeaning).place).place ≡ Refused NoMeaning at
  unfolding untaken
  tag-refused stays r t k =
      let g = tag-wrong PastEnd NoMeaning form s w hi top h (At at) _ (read_is r _ t.is) (Refused NoMeaning at) refl k in
      rw (← g) (stays 0 NoMeaning at)

  pub no-tag : ((n : ℕ) → Stays (form n)) → (e : Refusal) → Number (Err e) s at w 0 top NoMeaning
      → (form (number_at s (At at) w 0 hi NoMeaning).item (number_at s (At at) w 0 hi NoMeaning).place).place ≡ Refused e.cause e.place
  no-tag stays e t = rw (code-left PastEnd NoMeaning s w 0 hi top h (At at) _ e.cause e.place refl (refused-is e _ t.is)) (stays _ e.cause e.place)

-- a place that is not refused
abbrev pub AtBit : Place → Type 0
AtBit (At a) = Unit {0}
AtBit (Refused c b) = ⊥

pub record Stands (p : Place) : Type 0 where
  pub is : AtBit p

-- Back from an accepted end: the reading stood before it, and what was read is the meaning of a right value.
module _ {A : Type 0} (none : A) (right : ℕ → Bool) (means : ℕ → A) (cause : Cause) (w : ℕ) (s : List ℕ) (P : A → Type 0)
    (f : (v : ℕ) → v < 2 ^ w → right v ≡ true → P (means v)) where
  picked-in : (at v : ℕ) → v < 2 ^ w → (b : Bool) → right v ≡ b
      → Stands (cond {A = Read A} b (record { item = means v; place = At (at + w) }) (record { item = none; place = Refused cause at })).place
      → P (cond {A = Read A} b (record { item = means v; place = At (at + w) }) (record { item = none; place = Refused cause at })).item
  picked-in at v l true e k = f v l e
  picked-in at v l false e k = absurd k.is

  judged-in : (at : ℕ) (x : Option ℕ) → field_at s at w ≡ x → Stands (judged none right means PastEnd cause w at x).place → P (judged none right means PastEnd cause w at x).item
  unfolding judged
  judged-in at (Some v) e k = picked-in at v (value-lt s at w v e) (right v) refl k
  judged-in at None e k = absurd k.is

  accepted : (p : Place) → Stands (read_at none right means PastEnd cause w s p).place → Stands p × P (read_at none right means PastEnd cause w s p).item
  unfolding read_at
  accepted (At at) k = (record { is = tt }, judged-in at (field_at s at w) refl k)
  accepted (Refused c b) k = absurd k.is

pub number_in : (s : List ℕ) (p : Place) (w lo hi : ℕ) (cause : Cause) → Stands (number_at s p w lo hi cause).place
    → Stands p × ((lo ≤ (number_at s p w lo hi cause).item) × ((number_at s p w lo hi cause).item ≤ hi))
unfolding number_of
number_in s p w lo hi cause =
    accepted 0 (within lo hi) (λ (v : ℕ). v) cause w s (λ (v : ℕ). (lo ≤ v) × (v ≤ hi)) (λ (v : ℕ) (l : v < 2 ^ w) (e : within lo hi v ≡ true). within_in lo hi v e) p

pub signed-in : (s : List ℕ) (p : Place) (w limit : ℕ) → Stands (signed_at s p w limit).place → Stands p × (nat_abs (signed_at s p w limit).item ≤ limit)
unfolding signed_at
signed-in s p w limit =
    accepted (pos 0) (λ (v : ℕ). at_most limit (signed_of (2 ^ w) v)) (signed_of (2 ^ w)) PastLimits w s (λ (z : ℤ). nat_abs z ≤ limit)
    (λ (v : ℕ) (l : v < 2 ^ w) (e : at_most limit (signed_of (2 ^ w) v) ≡ true). leb-true (nat_abs (signed_of (2 ^ w) v)) limit e) p

-- in two's complement every value lies from -h to h - 1
below : (m h v : ℕ) → m ≡ 2 * h → v < m → Below h (signed_of m v)
below m h v e l = by (ltb v (m / 2)) refl
  where
    by : (b : Bool) → ltb v (m / 2) ≡ b → Below h (signed_of m v)
    by true i = let j : v < m / 2 = ltb-true v (m / 2) i in rw (over v m j) (omega arith)
    by false i = let j : m / 2 ≤ v = ltb-false v (m / 2) i in rw (under v m l j) (omega arith)

pub signed_below : (s : List ℕ) (p : Place) (w limit h : ℕ) → 2 ^ w ≡ 2 * h → Stands (signed_at s p w limit).place → Stands p × Below h (signed_at s p w limit).item
unfolding signed_at
signed_below s p w limit h e =
    accepted (pos 0) (λ (v : ℕ). at_most limit (signed_of (2 ^ w) v)) (signed_of (2 ^ w)) PastLimits w s (Below h)
    (λ (v : ℕ) (l : v < 2 ^ w) (k : at_most limit (signed_of (2 ^ w) v) ≡ true). below (2 ^ w) h v e l) p

-- what was read so fits an i16
pub signed_fits : (s : List ℕ) (at w limit : ℕ) (r : Reading ℤ) → Found (Ok r) (signed_at s (At at) w limit) at w → limit < 2 ^ 15 → mag r.item < 2 ^ 15
signed_fits s at w limit r f h =
    let e = read_is r _ f.is in
    let k : Stands (signed_at s (At at) w limit).place = rw (← e) (record { is = tt }) in
    by r.item (rw (← e) at (signed-in s (At at) w limit k).1)
  where
    by : (z : ℤ) → nat_abs z ≤ limit → mag z < 2 ^ 15
    by (pos n) l = omega arith
    by (negsuc n) l = omega arith
