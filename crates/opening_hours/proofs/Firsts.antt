-- The rule that 8 names is the first whose addition is too long: those before it were judged, and fit.
use mathlib.Core.Path.{◌≡◌, refl, sym, ap, ◌∙◌}
use mathlib.Core.Bool.{false}
use mathlib.Core.Option.{Option}
use mathlib.Core.List.{List, [], ◌∷◌, ◌++◌}
use Prim.Native.Nat.{ℕ, ◌+◌}
use native.Mathlib.Omega.{arith}
use lib.ListN.{length}
use borrow.Author.Tests.{lt-leb}
use Rattle.ranges.specs.Range.{Range}
use Rattle.ranges.specs.Insertion.{add_r}
use Rattle.ranges.proofs.Cases.{by}
use Rattle.reading.specs.Operators.{Turn}
use Rattle.reading.specs.Ranging.{Spanned, turn_r, few_b, over64, gives, range_m}
use Rattle.reading.proofs.Refusals.{Exceeds, RefusedAt, turns_r}

-- rule k's addition is too long, and the rules before it are not refused
pub record FirstLong (n : ℕ) (ms : List Spanned) (p : Turn (List Range)) (k : ℕ) : Type 0 where
  pub at : RefusedAt n ms p k
  pub fits : range_m n at.front p ≡ gives (turns_r at.front p).eval

same_number : (k j : ℕ) → over64 k ≡ over64 j → k ≡ j
same_number k j h = cc

never : (k : ℕ) (v : Option (List Range)) → over64 k ≡ gives v → ⊥
never k v h = let z : ◌≡◌ {A = ℕ} 0 1 = cc in omega arith

-- a refusal behind the front leaves the front unrefused
before-fits : (n : ℕ) (front : List Spanned) (rule : Spanned) (back : List Spanned) (p : Turn (List Range)) → range_m n (front ++ (rule ∷ back)) p ≡ over64 (n + length front)
    → range_m n front p ≡ gives (turns_r front p).eval
before-fits n [] rule back p z = refl
before-fits n (m ∷ front) rule back p z =
    by (few_b (turn_r m p).eval)
    (λ t. rw t (before-fits (n + 1) front rule back (turn_r m p) ((rw t at z) ∙ ap over64 (omega arith))))
    (λ t. let q = same_number n (n + length (m ∷ front)) (rw t at z) in absurd (omega arith))

-- and a rule too long behind an unrefused front is refused
then-refused : (n : ℕ) (front : List Spanned) (rule : Spanned) (back : List Spanned) (p : Turn (List Range)) → range_m n front p ≡ gives (turns_r front p).eval
    → few_b (turn_r rule (turns_r front p)).eval ≡ false → range_m n (front ++ (rule ∷ back)) p ≡ over64 (n + length front)
then-refused n [] rule back p z f = rw f (ap over64 (omega arith))
then-refused n (m ∷ front) rule back p z f =
    by (few_b (turn_r m p).eval)
    (λ t. rw t (then-refused (n + 1) front rule back (turn_r m p) (rw t at z) f ∙ ap over64 (omega arith)))
    (λ t. absurd (never n _ (rw t at z)))

long-false : (x y z : Option (List Range)) → Exceeds x y z → few_b z ≡ false
long-false x y z e = rw e.is (lt-leb (length (add_r e.below e.above)) 64 e.long)

module _ (n : ℕ) (ms : List Spanned) (p : Turn (List Range)) (k : ℕ) where
  pub all_fit : (a : RefusedAt n ms p k) → range_m n ms p ≡ over64 k → range_m n a.front p ≡ gives (turns_r a.front p).eval
  all_fit a z =
      before-fits n a.front a.rule a.back p
      (ap (λ (l : List Spanned). range_m n l p) a.list ∙ z ∙ ap over64 (sym a.number))

  pub long-refused : FirstLong n ms p k → range_m n ms p ≡ over64 k
  long-refused f =
      let a = f.at in
      ap (λ (l : List Spanned). range_m n l p) (sym a.list)
      ∙ then-refused n a.front a.rule a.back p f.fits (long-false _ _ _ a.exceeds)
      ∙ ap over64 a.number
