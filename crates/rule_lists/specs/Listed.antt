-- Counted items.
use Rattle.std.specs.Prelude.{ℕ, zero, suc, ◌+◌, ◌/◌, ◌≤◌, ◌≡◌, List, length, set, Option, Some, Result, MatchResult}
use Rattle.refusals.specs.declared.Refusal.{Refusal}
use Rattle.bits.specs.Bits.{ahead_of}
use Rattle.bits.specs.Place.{Place, At, Refused, Read}
use Rattle.bits.specs.declared.Reading.{Reading}
use Rattle.rule_words.specs.declared.Taken.{Taken}

-- k items, one behind the other, set into a room from its front; what stands behind them stays
unfoldable pub listed : {A : Type 0} → (Place → Read A) → List A → Place → ℕ → Read (List A)
listed f room p zero = record { item = room; place = p }
listed {A} f room p (suc k) =
    let r : Read (List A) = listed f room p k in
    let y : Read A = f r.place in
    record { item = set r.item k y.item; place = y.place }

-- what a caller learns of a list that was read into a room: its items and where it ends, at most at a bit, or its refusal
abbrev pub Filled : {A : Type 0} → Result ℕ Refusal → List A → Read (List A) → ℕ → Type 0
Filled result room list top =
    MatchResult result (λ end. (record { item = room; place = At end } ≡ list) × (end ≤ top)) (λ e. list.place ≡ Refused e.cause e.place)

-- what a caller learns of what a taker found at a bit: the word ahead, what it took of that, and where this ends
pub record Fronted {A : Type 0} (finds : ℕ → Option (Taken A) → Type 0) (s : List ℕ) (at : ℕ) (r : Reading A) : Type 0 where
  pub word : ℕ
  pub taken : Taken A
  pub left : at / 8 + 8 ≤ length s
  pub ahead : word ≡ ahead_of s at
  pub found : finds word (Some taken)
  pub is : r ≡ record { item = taken.item; end = at + taken.width }
