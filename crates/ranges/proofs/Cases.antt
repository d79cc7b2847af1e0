-- The two cases of a comparison and of a test, each with what it says.
use mathlib.Core.Path.{◌≡◌, refl}
use mathlib.Core.Bool.{Bool, true, false, false≢true}
use Prim.Native.Nat.{ℕ, ◌≤◌, ◌<◌}
use lib.Dec.{eqb, ltb}
use borrow.Author.Tests.{ltb-true, ltb-false, eqb-true, eqb-false}
use Rattle.ranges.specs.Range.{both}

pub split : {G : Type 0} (a b : ℕ) → (a < b → G) → (b ≤ a → G) → G
split {G} a b f g = go (ltb a b) refl
  where
    go : (q : Bool) → ltb a b ≡ q → G
    go true e = f (ltb-true a b e)
    go false e = g (ltb-false a b e)

pub by-eq : {G : Type 0} (a b : ℕ) → (a ≡ b → G) → ((a ≡ b → ⊥) → G) → G
by-eq {G} a b f g = go (eqb a b) refl
  where
    go : (q : Bool) → eqb a b ≡ q → G
    go true e = f (eqb-true a b e)
    go false e = g (eqb-false a b e)

pub by : {G : Type 0} (b : Bool) → (b ≡ true → G) → (b ≡ false → G) → G
by true f g = f refl
by false f g = g refl

-- a test that is two tests holds if both do
pub both_true : (p q : Bool) → both p q ≡ true → (p ≡ true) × (q ≡ true)
both_true true q h = (refl, h)
both_true false q h = absurd (false≢true h)
