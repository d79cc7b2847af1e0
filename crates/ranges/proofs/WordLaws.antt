-- Words and the ranges that they hold: one law for each field, both round trips, and the words of what is cut and joined.
use mathlib.Core.Path.{◌≡◌, refl, sym, ◌∙◌}
use mathlib.Core.List.{List, [], ◌∷◌, map}
use Prim.Native.Nat.{ℕ, ◌+◌, ◌*◌, ◌/◌, ◌%◌, ◌<◌}
use native.Mathlib.Omega.{arith}
use lib.Dec.{eqb}
use borrow.Author.Tests.{eq-eqb, ne_eqb}
use Rattle.ranges.specs.Range.{Range, same, between}
use Rattle.ranges.specs.Words.{range_of, word_of}
use Rattle.ranges.proofs.Cases.{by-eq}

-- the four fields
pub of-start : (w : ℕ) → (range_of w).start ≡ w / 2097152
unfolding range_of
of-start w = refl

pub of_end : (w : ℕ) → (range_of w).end ≡ w / 1024 % 2048
unfolding range_of
of_end w = refl

pub of-kind : (w : ℕ) → (range_of w).kind ≡ w / 256 % 4
unfolding range_of
of-kind w = refl

pub of-comment : (w : ℕ) → (range_of w).comment ≡ w % 256
unfolding range_of
of-comment w = refl

-- a range is its four fields
pub range-eq : (r : Range) (s e k c : ℕ) → r.start ≡ s → r.end ≡ e → r.kind ≡ k → r.comment ≡ c → r ≡ record { start = s; end = e; kind = k; comment = c }
range-eq r s e k c p q u v = rw (← p, ← q, ← u, ← v)

-- two bounds over a word's state
pub between_is : (s e w : ℕ) → s < 2048 → e < 2048 → range_of (s * 2097152 + e * 1024 + w % 1024) ≡ between s e (range_of w)
between_is s e w h k =
    let v = s * 2097152 + e * 1024 + w % 1024 in
    range-eq (range_of v) s e (range_of w).kind (range_of w).comment
    (of-start v ∙ omega arith)
    (of_end v ∙ omega arith)
    (of-kind v ∙ omega arith ∙ sym (of-kind w))
    (of-comment v ∙ omega arith ∙ sym (of-comment w))

-- both round trips
pub of_word : (r : Range) → r.start < 2048 → r.end < 2048 → r.kind < 4 → r.comment < 256 → range_of (word_of r) ≡ r
of_word r h k i j =
    let v = word_of r in
    range-eq (range_of v) r.start r.end r.kind r.comment
    (of-start v ∙ omega arith)
    (of_end v ∙ omega arith)
    (of-kind v ∙ omega arith)
    (of-comment v ∙ omega arith)

pub of_range : (w : ℕ) → word_of (range_of w) ≡ w
of_range w = rw (of-start w, of_end w, of-kind w, of-comment w) (omega arith)

-- the low ten bits are the state
pub same_is : (a b : ℕ) → eqb (a % 1024) (b % 1024) ≡ same (range_of a) (range_of b)
same_is a b =
    rw (of-kind a, of-kind b, of-comment a, of-comment b)
    (by-eq (a / 256 % 4) (b / 256 % 4)
    (λ h. rw (eq-eqb (a / 256 % 4) (b / 256 % 4) h) (by-eq (a % 256) (b % 256)
    (λ k. rw (eq-eqb (a % 256) (b % 256) k) (eq-eqb (a % 1024) (b % 1024) (omega arith)))
    (λ k. rw (ne_eqb (a % 256) (b % 256) k) (ne_eqb (a % 1024) (b % 1024) (λ i. k (omega arith))))))
    (λ h. rw (ne_eqb (a / 256 % 4) (b / 256 % 4) h) (ne_eqb (a % 1024) (b % 1024) (λ i. h (omega arith)))))

-- a list of words, through its ranges
pub words_back : (l : List ℕ) → map word_of (map range_of l) ≡ l
words_back [] = refl
words_back (w ∷ l) = rw (of_range w, words_back l)

-- fields that fit the word
pub record Fits (r : Range) : Type 0 where
  pub start : r.start < 2048
  pub end : r.end < 2048
  pub kind : r.kind < 4
  pub comment : r.comment < 256

abbrev pub AllFit : List Range → Type 0
AllFit [] = Unit {0}
AllFit (r ∷ l) = Fits r × AllFit l

-- a list of ranges that fit, through its words
pub ranges-back : (l : List Range) → AllFit l → map range_of (map word_of l) ≡ l
ranges-back [] f = refl
ranges-back (r ∷ l) f = rw (of_word r f.0.start f.0.end f.0.kind f.0.comment, ranges-back l f.1)
