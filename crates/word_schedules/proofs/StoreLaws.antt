-- Schedules that words offer, and the words of a schedule that is made.
use Rattle.std.proofs.Common.{◌≡◌, refl, sym, ap, ◌∙◌, true, ℕ, ◌-◌, ◌≤◌, List, length, take, drop, arith, Result}
use mathlib.Core.List.{map}
use lib.Dec.{leb}
use lib.ListN.{replicate, length-map}
use lib.Seq.{take_at}
use borrow.Author.Tests.{le-leb}
use Rattle.refusals.specs.declared.Refusal.{Refusal}
use Rattle.ranges.specs.Range.{Range}
use Rattle.ranges.specs.States.{InOrder}
use Rattle.ranges.specs.Insertion.{add_r}
use Rattle.ranges.specs.Words.{ranges, word_of, Copied}
use Rattle.ranges.proofs.Lists.{long-ranges}
use Rattle.ranges.proofs.WordLaws.{words_back}
use Rattle.schedule.specs.Schedules.{view, made, valid, addition_of}
use Rattle.schedule.specs.Rooms.{Leaves, AddReady}
use Rattle.schedule.proofs.Answers.{valid-in}
use Rattle.listing.specs.Writing.{ListReady}
use Rattle.word_schedules.specs.Stored.{offered, words_of, Fits, Stores}

-- the ranges of an offered schedule are those of its words
view-offered : (w : List ℕ) → view (offered w) ≡ ranges w
view-offered w = ap ranges (take_at w (replicate (64 - length w) 0) (length w) refl)

offered-in : (w : List ℕ) → valid (offered w) ≡ true → (length w ≤ 64) × InOrder 0 (ranges w) 1440
offered-in w e =
    let p = valid-in (offered w) e in
    (p.0, rw (view-offered w) at p.1)

pub list_ready : (w : List ℕ) → valid (offered w) ≡ true → ListReady w
list_ready w v = let p = offered-in w v in record { few = p.0; order = p.1 }

-- of a made schedule, the words whose ranges it is made of
made_words : (l : List Range) (ys : List ℕ) (r : ℕ) → ranges (take r ys) ≡ l → words_of (made l) ≡ take r ys
made_words l ys r e =
    take_at (map word_of l) (replicate (64 - length l) 0) (length l) (length-map l word_of)
    ∙ ap (map word_of) (sym e) ∙ words_back (take r ys)

-- the sum of two offered schedules, in a room that has the first in front
module _ (a b : List ℕ) (va : valid (offered a) ≡ true) (vb : valid (offered b) ≡ true) (zs xs : List ℕ) (c : Copied a zs xs) where
  front : take (length a) xs ≡ a
  front = rw c.is (take_at a (drop (length a) zs) (length a) refl)

  pub sum_ready : length xs ≡ 192 → AddReady xs (length a) b
  sum_ready h =
      let p = offered-in a va in
      let q = offered-in b vb in
      record { room = omega (arith, p.0, q.0); order = rw front p.1; order' = q.1 }

  module _ (ys : List ℕ) (hi r : ℕ) (q : Leaves (add_r (ranges (take (length a) xs)) (ranges b)) ys hi r) (k : r ≤ length ys) where
    sum : ranges (take r ys) ≡ add_r (view (offered a)) (view (offered b))
    sum = rw (view-offered a, view-offered b) (rw front at q.list)

    pub sum_stored : r ≤ 64 → (o p : List ℕ) (w : Result ℕ Refusal) → Fits (take r ys) o p w → Stores (addition_of (offered a) (offered b)) o p w
    sum_stored u o p w f =
        let l = add_r (view (offered a)) (view (offered b)) in
        let n : leb (length l) 64 ≡ true = le-leb (length l) 64 (omega (arith, ap length sum, long-ranges ys r k)) in
        let m = made_words l ys r sum in
        rw (va, vb, n) (record { answer = rw m f.answer; cells = rw m f.cells })
