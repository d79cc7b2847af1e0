-- Shut in ranges is shut in minutes: each range shows at least its first minute.
use mathlib.Core.Path.{◌≡◌, refl, ◌∙◌}
use mathlib.Core.Bool.{Bool, true, false, ◌&&◌, false≢true}
use mathlib.Core.List.{List}
use Prim.Native.Nat.{ℕ, ◌<◌}
use lib.Dec.{eqb}
use borrow.Author.Tests.{eq-eqb, eqb-true}
use Rattle.ranges.specs.Range.{Range}
use Rattle.ranges.specs.States.{Shown, dark, shows, state_at, lit, InOrder}
use Rattle.ranges.specs.Closed.{shut_b}
use Rattle.ranges.proofs.Cases.{by}
use Rattle.ranges.proofs.Closing.{shut_at, awake-of}
use Rattle.reading.specs.Reading.{Seen, state_of, dim, shut_m}
use Rattle.reading.proofs.Minutes.{dim_s, dim-state, throughout-all, throughout-not}

-- a state passes the test if it is closed with comment 0, nothing being so
dim-closed : (s : Shown) → lit s ≡ shows 1 0 → dim_s s ≡ true
dim-closed dark h = refl
dim-closed (shows k c) h =
    let p : k ≡ 1 = cc in let q : c ≡ 0 = cc in
    rw (eq-eqb k 1 p, eq-eqb c 0 q)

and-true : (p q : Bool) → (p && q) ≡ true → (p ≡ true) × (q ≡ true)
and-true true q h = (refl, h)
and-true false q h = absurd (false≢true h)

dim-other : (k c : ℕ) → (shows k c ≡ shows 1 0 → ⊥) → dim_s (shows k c) ≡ false
dim-other k c n =
    by (eqb k 1 && eqb c 0)
    (λ e. let p = and-true (eqb k 1) (eqb c 0) e in
    let i : k ≡ 1 = eqb-true k 1 p.0 in let j : c ≡ 0 = eqb-true c 0 p.1 in
    absurd (n (rw (i, j))))
    (λ e. e)

-- THEOREM: a list in order that shows what f shows is shut exactly if f is
pub shut-same : {L : Type 0} (f : ℕ → Seen L) (l : List Range) → InOrder 0 l 1440 → ((t : ℕ) → t < 1440 → state_at l t ≡ state_of (f t)) → shut_m f ≡ shut_b l
shut-same f l o a =
    by (shut_b l)
    (λ e. rw e (throughout-all 1440 (λ t. dim (f t)) (λ t h. dim-state (f t) ∙ rw (← a t h) (dim-closed (state_at l t) (shut_at l t e)))))
    (λ e. let w = awake-of 0 1440 l o e in
    rw e (throughout-not 1440 (λ t. dim (f t)) w.minute w.upto
    (dim-state (f w.minute) ∙ rw (← a w.minute w.upto, w.is) (dim-other w.kind w.comment w.other))))
