-- How long the lines are, and what they are made of.
use mathlib.Core.Path.{◌≡◌, sym}
use mathlib.Core.Bool.{Bool, true, false, cond}
use mathlib.Core.List.{List, [], ◌∷◌, ◌++◌, append_assoc, append-nil}
use Prim.Native.Nat.{ℕ, ◌+◌, ◌*◌, ◌/◌, ◌%◌, ◌≤◌, ◌<◌}
use native.Mathlib.Numerals.{add-one}
use native.Mathlib.Omega.{arith}
use lib.Dec.{eqb}
use lib.ListN.{length, length-append, get_or, take}
use lib.Seq.{take_all, take-suc}
use Rattle.ranges.specs.Words.{range_of, ranges}
use Rattle.rendering.specs.Text.{spaced, kind_text, decimal, line_of, lines_of, refusal_line}
use Rattle.rendering.specs.declared.Writer.{Writer}
use Rattle.rendering.specs.Writing.{Writes}
use Rattle.rendering.proofs.Decimals.{decimal-few, decimal-short}
use Rattle.rendering.proofs.Stores.{behind}

one_of_three : (b d : Bool) (x y z : List ℕ) (n : ℕ) → length x ≤ n → length y ≤ n → length z ≤ n → length (cond b x (cond d y z)) ≤ n
one_of_three true d x y z n p q r = p
one_of_three false true x y z n p q r = q
one_of_three false false x y z n p q r = r

pub kind-short : (k : ℕ) → length (kind_text k) ≤ 7
unfolding kind_text
kind-short k = one_of_three (eqb k 0) (eqb k 1) _ _ _ 7 (omega arith) (omega arith) (omega arith)

pub kind-length : (k : ℕ) → length (spaced (kind_text k)) ≤ 8
kind-length k = omega (arith, length-append (kind_text k) (32 ∷ []), kind-short k)

-- A number below 1000 has at most three digits.
pub comment-short : (n : ℕ) → n < 256 → length (decimal n) ≤ 3
comment-short n h = decimal-short 20 2 n (omega arith)

pub number_short : (n : ℕ) → length (decimal n) ≤ 20
number_short n = decimal-few 20 n

-- Twelve bytes for the times, at most eight for the kind and four for the comment.
pub line-short : (w : ℕ) → length (line_of (range_of w)) ≤ 24
unfolding line_of range_of
line-short w =
    simp length-append (omega (arith, kind-short (w / 256 % 4), comment-short (w % 256) (omega arith)))

-- Entries of words, 24 bytes each at most.
pub lines-short : (l : List ℕ) → length (lines_of (ranges l)) ≤ 24 * length l
lines-short [] = omega arith
lines-short (w ∷ l) =
    simp length-append (omega (arith, line-short w, lines-short l))

pub refusal-short : (n place : ℕ) → n < 256 → length (refusal_line n place) ≤ 40
unfolding refusal_line
refusal-short n place h = simp length-append (omega (arith, comment-short n h, number_short place))

-- The next line of a loop over words, behind those before it.
lines_snoc : (l : List ℕ) (w : ℕ) → lines_of (ranges (l ++ (w ∷ []))) ≡ lines_of (ranges l) ++ line_of (range_of w)
lines_snoc [] w = append-nil (line_of (range_of w))
lines_snoc (x ∷ l) w = rw (lines_snoc l w) (sym (append_assoc (line_of (range_of x)) (lines_of (ranges l)) (line_of (range_of w))))

-- what a loop has written of the words so far
pub record Lined (w : Writer) (words : List ℕ) (i : ℕ) (w' : Writer) : Type 0 where
  pub near : w'.at ≤ w.at + 24 * i
  pub lines : Writes w (lines_of (ranges (take i words))) w'

pub line-more : (a b c : Writer) (words : List ℕ) (i : ℕ) → i < length words → Lined a words i b → Writes b (line_of (range_of (get_or words i 0))) c → Lined a words (i + 1) c
line-more a b c words i h l w =
    record {
      near = omega (arith, line-short (get_or words i 0));
      lines = rw (add-one i, take-suc words i 0 h, lines_snoc (take i words) (get_or words i 0)) (behind _ _ l.lines w);
    }

pub lined-all : (a b : Writer) (words : List ℕ) (i : ℕ) → length words ≤ i → Lined a words i b → Writes a (lines_of (ranges words)) b
lined-all a b words i h l = rw (take_all i words h) at l.lines
