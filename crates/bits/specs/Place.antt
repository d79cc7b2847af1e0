-- Where a reading stands: at a bit, or refused for a cause at a bit. A refusal stays: what is read after it is nothing and changes nothing.
use Rattle.std.specs.Prelude.{ℕ, ◌+◌, ◌≤◌, ◌^◌, ◌≡◌, List, Bool, cond, ◌&&◌, leb, ℤ, pos, nat_abs, Option, Some, None, Result, Ok, Err, IfOk}
use Rattle.refusals.specs.declared.Cause.{Cause}
use Rattle.refusals.specs.declared.Cause.TheVariants.{PastEnd, NoMeaning, PastLimits}
use Rattle.refusals.specs.declared.Refusal.{Refusal}
use Rattle.bits.specs.Bits.{field_at}
use Rattle.bits.specs.Signed.{signed_of}
use Rattle.bits.specs.declared.Reading.{Reading}

-- a place whose refusals have causes of the kind C
pub data PlaceOf (C : Type 0) : Type 0 where
  At : ℕ → PlaceOf C
  Refused : C → ℕ → PlaceOf C

abbrev pub Place : Type 0
Place = PlaceOf Cause

-- what was read, and where the reading stands behind it
pub record ReadOf (C A : Type 0) : Type 0 where
  pub item : A
  pub place : PlaceOf C

abbrev pub Read : Type 0 → Type 0
Read A = ReadOf Cause A

-- a refusal where a reading stands; an earlier one stays
abbrev pub refuse_at : {C : Type 0} → C → PlaceOf C → PlaceOf C
refuse_at c (At a) = Refused c a
refuse_at c (Refused d b) = Refused d b

-- a code that is not taken: refused for the cause given at its first bit, unless the reading was refused before its end
unfoldable pub untaken : {C : Type 0} → C → PlaceOf C → PlaceOf C → PlaceOf C
untaken cause before (At a) = refuse_at cause before
untaken cause before (Refused c b) = Refused c b

-- a code without a meaning
abbrev pub unmeant : Place → Place → Place
unmeant before after = untaken NoMeaning before after

-- a field at a bit: past the image it is refused for that, a value that is not right for the cause given, each at the field's first bit
unfoldable pub judged : {C A : Type 0} → A → (ℕ → Bool) → (ℕ → A) → C → C → ℕ → ℕ → Option ℕ → ReadOf C A
judged none right means past cause w at (Some v) =
    cond (right v) (record { item = means v; place = At (at + w) }) (record { item = none; place = Refused cause at })
judged none right means past cause w at None = record { item = none; place = Refused past at }

-- a field of w bits where the reading stands
unfoldable pub read_at : {C A : Type 0} → A → (ℕ → Bool) → (ℕ → A) → C → C → ℕ → List ℕ → PlaceOf C → ReadOf C A
read_at none right means past cause w s (At at) = judged none right means past cause w at (field_at s at w)
read_at none right means past cause w s (Refused c b) = record { item = none; place = Refused c b }

abbrev pub within : ℕ → ℕ → ℕ → Bool
within lo hi v = leb lo v && leb v hi

-- a number of w bits from lo to hi, or refused for the cause given
unfoldable pub number_of : {C : Type 0} → C → List ℕ → PlaceOf C → ℕ → ℕ → ℕ → C → ReadOf C ℕ
number_of past s p w lo hi cause = read_at 0 (within lo hi) (λ (v : ℕ). v) past cause w s p

abbrev pub number_at : List ℕ → Place → ℕ → ℕ → ℕ → Cause → Read ℕ
number_at s p w lo hi cause = number_of PastEnd s p w lo hi cause

abbrev pub at_most : ℕ → ℤ → Bool
at_most limit z = leb (nat_abs z) limit

-- a signed number of w bits, at most limit from 0, or refused for its limits
unfoldable pub signed_at : List ℕ → Place → ℕ → ℕ → Read ℤ
signed_at s p w limit = read_at (pos 0) (λ (v : ℕ). at_most limit (signed_of (2 ^ w) v)) (signed_of (2 ^ w)) PastEnd PastLimits w s p

-- the answer of a reader that stands at a place: what it read and the bit behind it, or its refusal, made of the cause and the bit
abbrev pub answer_in : {C R A : Type 0} → (C → ℕ → R) → PlaceOf C → A → Result (Reading A) R
answer_in refuse (At a) x = Ok (record { item = x; end = a })
answer_in refuse (Refused c b) x = Err (refuse c b)

-- a refusal by a cause at a bit
abbrev pub refusal : Cause → ℕ → Refusal
refusal c b = record { cause = c; place = b }

abbrev pub answer_at : {A : Type 0} → Place → A → Result (Reading A) Refusal
answer_at p x = answer_in refusal p x

abbrev pub answered : {C R A : Type 0} → (C → ℕ → R) → ReadOf C A → Result (Reading A) R
answered refuse r = answer_in refuse r.place r.item

abbrev pub outcome : {A : Type 0} → Read A → Result (Reading A) Refusal
outcome r = answered refusal r

-- where a reader is asked to read: at a bit, or at none, since something was refused before; such a refusal is the answer
abbrev pub from : {A R : Type 0} → Result ℕ R → (ℕ → Result A R) → Result A R
from (Ok a) found = found a
from (Err e) found = Err e

-- the bit; 0 where something was refused before
abbrev pub bit_of : {R : Type 0} → Result ℕ R → ℕ
bit_of (Ok a) = a
bit_of (Err e) = 0

-- an answer whose refusal is put in other words
abbrev pub stated : {C R A : Type 0} → (Cause → C) → (C → ℕ → R) → Result A Refusal → Result A R
stated says refuse (Ok x) = Ok x
stated says refuse (Err e) = Err (refuse (says e.cause) e.place)

-- what a caller of a reader learns: its answer is what the reading comes to, and it took at most w bits
pub record Came {R A : Type 0} (result answer : Result (Reading A) R) (at w : ℕ) : Type 0 where
  pub is : result ≡ answer
  pub near : IfOk result (λ r. r.end ≤ at + w)

abbrev pub Found : {A : Type 0} → Result (Reading A) Refusal → Read A → ℕ → ℕ → Type 0
Found result spec at w = Came result (outcome spec) at w

-- the same from where a reader is asked to read, in the words of who asks
abbrev pub FoundFrom : {C R A : Type 0} → (Cause → C) → (C → ℕ → R) → Result (Reading A) R → Result ℕ R → (Place → Read A) → ℕ → Type 0
FoundFrom says refuse result given spec w =
    Came result (from given (λ a. answered (λ c. refuse (says c)) (spec (At a)))) (bit_of given) w

-- the same of a number, and its limit
pub record NumberOf {C R : Type 0} (past : C) (refuse : C → ℕ → R) (result : Result (Reading ℕ) R) (s : List ℕ) (given : Result ℕ R) (w lo hi : ℕ) (cause : C) : Type 0 where
  pub is : result ≡ from given (λ a. answered refuse (number_of past s (At a) w lo hi cause))
  pub near : IfOk result (λ r. r.end ≤ bit_of given + w)
  pub top : IfOk result (λ r. r.item ≤ hi)

abbrev pub Number : Result (Reading ℕ) Refusal → List ℕ → ℕ → ℕ → ℕ → ℕ → Cause → Type 0
Number result s at w lo hi cause = NumberOf PastEnd refusal result s (Ok at) w lo hi cause
