-- What the parts of an insertion say of the words that they work on.
use Rattle.std.specs.Prelude.{◌≡◌, List, [], ◌∷◌, ◌++◌, ℕ, ◌+◌, ◌-◌, ◌≤◌, ◌<◌, length, take, drop, Option, None, Some}
use Rattle.std.proofs.lemmas.List.Edits.{sets}
use Rattle.ranges.specs.Range.{Range}
use Rattle.ranges.specs.Words.{range_of, ranges}
use Rattle.insertion.specs.declared.Side.{Side}
use Rattle.insertion.specs.declared.Plan.{Plan}

-- the first of the ranges, if there is one, ends after minute s
abbrev pub Reaches : ℕ → List ℕ → Type 0
Reaches s [] = Unit {0}
Reaches s (w ∷ l) = s < (range_of w).end

-- a piece that may be there, as a list
abbrev pub pieces : Option ℕ → List ℕ
pieces None = []
pieces (Some w) = w ∷ []

-- l is the word, the piece that may be there, and the last `kept` of the ranges xs
pub record Behind (l : List Range) (xs : List ℕ) (q : Side) : Type 0 where
  pub few : length (pieces q.piece) + q.kept ≤ length xs
  pub list : l ≡ ranges (q.word ∷ (pieces q.piece ++ drop (length xs - q.kept) xs))

-- f l is the first `kept` of the ranges xs, the piece that may be there, the word, and l
pub record Before (f : List Range → List Range) (xs : List ℕ) (q : Side) : Type 0 where
  pub few : q.kept ≤ length xs
  pub list : (l : List Range) → f l ≡ ranges (take q.kept xs ++ pieces q.piece) ++ range_of q.word ∷ l

-- the words that a plan stores
abbrev pub middle : Plan → List ℕ
middle p = pieces p.cut ++ (p.word ∷ pieces p.rest)

-- l is what a plan makes of the ranges xs: the piece on the right is one of them that is cut
pub record Planned (l : List Range) (xs : List ℕ) (p : Plan) : Type 0 where
  pub few : p.front + length (pieces p.rest) + p.behind ≤ length xs
  pub list : l ≡ ranges (take p.front xs ++ (middle p ++ drop (length xs - p.behind) xs))

-- r words of ys are the ranges l
pub record Inserted (l : List Range) (xs ys : List ℕ) (n r : ℕ) : Type 0 where
  pub few : r ≤ n + 2
  pub size : length ys ≡ length xs
  pub list : ranges (take r ys) ≡ l

-- ys is xs with the piece, if there is one, stored at `at`
pub record Put (xs : List ℕ) (at : ℕ) (piece : Option ℕ) (ys : List ℕ) : Type 0 where
  pub is : ys ≡ sets xs at (pieces piece)
