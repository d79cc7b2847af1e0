-- What the room holds, as a schedule; an addition's room.
use Rattle.std.proofs.Common.{◌≡◌, sym, ap, ◌∙◌, true, ℕ, zero, suc, ◌-◌, ◌≤◌, List, ◌++◌, length, take, drop, arith}
use native.Mathlib.Nat.{sub-zero}
use lib.Dec.{leb}
use lib.ListN.{replicate, length-map}
use lib.Seq.{take_at, length-take-le}
use borrow.Author.Tests.{leb-true}
use Rattle.ranges.specs.States.{InOrder, order_b}
use Rattle.ranges.specs.Words.{range_of, ranges, Copied}
use Rattle.ranges.proofs.Cases.{both_true}
use Rattle.ranges.proofs.Validity.{order-in}
use Rattle.ranges.proofs.WordLaws.{words_back}
use Rattle.schedule.specs.declared.Schedule.{Schedule}
use Rattle.schedule.specs.Schedules.{view, made, valid}
use Rattle.schedule.specs.Rooms.{AddReady}

-- words copied into a filled array
drop-replicate : (i n a : ℕ) → drop i (replicate n a) ≡ replicate (n - i) a
drop-replicate zero n a = rw (sub-zero n)
drop-replicate (suc i) zero a = let e : 0 - suc i ≡ 0 = omega arith in rw e
drop-replicate (suc i) (suc n) a = let e : suc n - suc i ≡ n - i = omega arith in rw e (drop-replicate i n a)

pub made_is : (xs out : List ℕ) → Copied xs (replicate 64 0) out → ◌≡◌ {A = Schedule} (record { len = length xs; words = out }) (made (ranges xs))
made_is xs out c =
    let k : length (ranges xs) ≡ length xs = length-map xs range_of in
    let w : xs ++ replicate (64 - length xs) 0 ≡ out = sym (c.is ∙ ap (λ (z : List ℕ). xs ++ z) (drop-replicate (length xs) 64 0)) in
    rw (k, words_back xs, w)

-- what a valid schedule holds
pub valid-in : (s : Schedule) → valid s ≡ true → (s.len ≤ 64) × InOrder 0 (view s) 1440
valid-in s t =
    let p = both_true (leb s.len 64) (order_b 0 (view s)) t in
    (leb-true _ _ p.0, (order-in 0 (view s) p.1).0)

-- a valid schedule counts no more words than it has
pub counted : (s : Schedule) → valid s ≡ true → length s.words ≡ 64 → length (take s.len s.words) ≡ s.len
counted s t k = length-take-le s.len s.words (omega (arith, (valid-in s t).0))

-- an addition: the room xs has the first in front
module _ (a b : Schedule) (u : valid a ≡ true) (v : valid b ≡ true) (la : length a.words ≡ 64) (lb : length b.words ≡ 64)
    (zs xs : List ℕ) (c : Copied (take a.len a.words) zs xs) where
  front : take a.len xs ≡ take a.len a.words
  front = rw c.is (take_at (take a.len a.words) (drop (length (take a.len a.words)) zs) a.len (counted a u la))

  pub add_ready : length xs ≡ 192 → AddReady xs a.len (take b.len b.words)
  add_ready k =
      let p = valid-in a u in
      let q = valid-in b v in
      record { room = omega (arith, p.0, q.0, counted b v lb); order = rw front p.1; order' = q.1 }
