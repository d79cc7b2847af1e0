-- What the entries in the room answer.
use Rattle.std.proofs.Common.{◌≡◌, sym, ap, ◌∙◌, ℕ, ◌≤◌, ◌<◌, List, length, take, arith, Ok, true, false}
use mathlib.Core.List.{map}
use lib.Dec.{leb}
use lib.Seq.{length-take-le}
use borrow.Author.Tests.{le-leb, lt-leb}
use Rattle.refusals.specs.Numbers.{refused}
use Rattle.refusals.specs.declared.Cause.TheVariants.{NoRoom}
use Rattle.ranges.specs.Range.{Range}
use Rattle.ranges.specs.Words.{word_of, Copied}
use Rattle.ranges.proofs.Lists.{long-ranges}
use Rattle.ranges.proofs.WordLaws.{words_back}
use Rattle.listing.specs.Listing.{listing}
use Rattle.listing.specs.Writing.{Entries, Writes}

module _ (l : List Range) (o ys : List ℕ) (r : ℕ) (p : Entries (listing l) ys 129 r) (h : 129 ≤ length ys) where
  size : length (listing l) ≡ r
  size = ap length (sym p.list) ∙ long-ranges ys r (omega (arith, p.few))

  words : map word_of (listing l) ≡ take r ys
  words = ap (map word_of) (sym p.list) ∙ words_back (take r ys)

  pub long_enough : r ≤ length o → (q : List ℕ) → Copied (take r ys) o q → Writes l o q (Ok r)
  long_enough k q c =
      let g : leb (length (listing l)) (length o) ≡ true = rw size (le-leb r (length o) k) in
      record { answer = rw (g, size); cells = rw (g, words, size) (rw (length-take-le r ys (omega (arith, p.few))) at c.is) }

  pub too_short : length o < r → Writes l o o (refused NoRoom r)
  too_short k =
      let g : leb (length (listing l)) (length o) ≡ false = rw size (lt-leb r (length o) k) in
      record { answer = rw (g, size); cells = rw g }
