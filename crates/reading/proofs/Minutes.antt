-- What a minute shows, by its state alone.
use mathlib.Core.Path.{◌≡◌, refl}
use mathlib.Core.Bool.{Bool, true, false, cond, ◌&&◌}
use Prim.Native.Nat.{ℕ, zero, suc, ◌<◌}
use native.Mathlib.Omega.{arith}
use lib.Dec.{eqb}
use Rattle.ranges.specs.States.{Shown, dark, shows, over}
use Rattle.ranges.proofs.Cases.{split}
use Rattle.reading.specs.Reading.{Seen, nothing, seen, throughout, state_of, above, dim}

-- the test of a minute, asked of its state
abbrev pub dim_s : Shown → Bool
dim_s dark = true
dim_s (shows k c) = eqb k 1 && eqb c 0

module _ {L : Type 0} where
  pub above-state : (a b : Seen L) → state_of (above a b) ≡ over (state_of a) (state_of b)
  above-state nothing b = refl
  above-state (seen k c l) b = refl

  pub above-nothing : (a : Seen L) → above a nothing ≡ a
  above-nothing nothing = refl
  above-nothing (seen k c l) = refl

  pub state-if : (q : Bool) (k c : ℕ) (l : L) → state_of (cond q (seen k c l) nothing) ≡ cond q (shows k c) dark
  state-if true k c l = refl
  state-if false k c l = refl

  pub dim-state : (s : Seen L) → dim s ≡ dim_s (state_of s)
  dim-state nothing = refl
  dim-state (seen k c l) = refl

-- a test that every minute before n passes, that one fails, or that two functions make alike
pub throughout-all : (n : ℕ) (f : ℕ → Bool) → ((t : ℕ) → t < n → f t ≡ true) → throughout n f ≡ true
unfolding throughout
throughout-all zero f h = refl
throughout-all (suc n) f h = rw (h n (omega arith), throughout-all n f (λ t k. h t (omega arith)))

never : (b : Bool) → (b && false) ≡ false
never true = refl
never false = refl

pub throughout-not : (n : ℕ) (f : ℕ → Bool) (t : ℕ) → t < n → f t ≡ false → throughout n f ≡ false
unfolding throughout
throughout-not zero f t h e = absurd (omega arith)
throughout-not (suc n) f t h e =
    split t n
    (λ k. rw (throughout-not n f t k e) (never (f n)))
    (λ k. let q : t ≡ n = omega arith in rw (rw q at e))

pub throughout-same : (n : ℕ) (f g : ℕ → Bool) → ((t : ℕ) → f t ≡ g t) → throughout n f ≡ throughout n g
unfolding throughout
throughout-same zero f g h = refl
throughout-same (suc n) f g h = rw (h n, throughout-same n f g h)
