-- The first minute of another state: what may be passed over, and where the search stops.
use mathlib.Core.Path.{◌≡◌, refl}
use mathlib.Core.Bool.{true, false}
use Prim.Native.Nat.{ℕ, zero, suc, ◌+◌, ◌≤◌, ◌<◌}
use native.Mathlib.Omega.{arith}
use Rattle.ranges.specs.States.{Shown}
use Rattle.ranges.proofs.Cases.{split}
use Rattle.changes.specs.Search.{alike, other}

-- minutes that show s are passed over
pub skip : (f : ℕ → Shown) (s : Shown) (k j t u : ℕ) → t + k ≡ u + j → t ≤ u → ((v : ℕ) → t ≤ v → v < u → alike (f v) s ≡ true) → other f s t k ≡ other f s u j
unfolding other
skip f s zero j t u e h a = let p : u ≡ t = omega arith in let q : j ≡ 0 = omega arith in rw (p, q)
skip f s (suc k) j t u e h a =
    split t u
    (λ i. rw (a t (omega arith) i) (skip f s k j (t + 1) u (omega arith) (omega arith) (λ v x y. a v (omega arith) y)))
    (λ i. let p : u ≡ t = omega arith in let q : j ≡ suc k = omega arith in rw (p, q))

-- a minute that doesn't show s is the first
pub stop : (f : ℕ → Shown) (s : Shown) (k t : ℕ) → alike (f t) s ≡ false → other f s t k ≡ t
unfolding other
stop f s zero t h = refl
stop f s (suc k) t h = rw h

-- with no minute left, the search is at its end
pub none_left : (f : ℕ → Shown) (s : Shown) (t : ℕ) → other f s t 0 ≡ t
unfolding other
none_left f s t = refl

-- only the minutes searched matter
pub other-same : (f g : ℕ → Shown) (s : Shown) (k t : ℕ) → ((u : ℕ) → t ≤ u → u < t + k → f u ≡ g u) → other f s t k ≡ other g s t k
unfolding other
other-same f g s zero t h = refl
other-same f g s (suc k) t h = rw (h t (omega arith) (omega arith), other-same f g s k (t + 1) (λ u x y. h u (omega arith) (omega arith)))
