-- A range as a word: start 11 bits, end 11, kind 2, comment 8.
use Rattle.std.specs.Prelude.{◌≡◌, List, ◌++◌, map, ℕ, ◌+◌, ◌*◌, ◌/◌, ◌%◌, length, drop}
use Rattle.ranges.specs.Range.{Range}

unfoldable pub range_of : ℕ → Range
range_of w = record { start = w / 2097152; end = w / 1024 % 2048; kind = w / 256 % 4; comment = w % 256 }

abbrev pub word_of : Range → ℕ
word_of r = r.start * 2097152 + r.end * 1024 + r.kind * 256 + r.comment

abbrev pub ranges : List ℕ → List Range
ranges l = map range_of l

-- ys is zs with the words xs in front
pub record Copied (xs zs ys : List ℕ) : Type 0 where
  pub is : ys ≡ xs ++ drop (length xs) zs
