-- The test of an offered list says what it is to say, both ways.
use mathlib.Core.Path.{◌≡◌}
use mathlib.Core.Bool.{true}
use mathlib.Core.List.{List, [], ◌∷◌}
use Prim.Native.Nat.{ℕ, ◌≤◌}
use lib.Dec.{leb, ltb}
use borrow.Author.Tests.{le-leb, lt-ltb, leb-true, ltb-true}
use Rattle.ranges.specs.Range.{Range, both}
use Rattle.ranges.specs.States.{InOrder, Each, fits_b, order_b}
use Rattle.ranges.proofs.Cases.{both_true}

abbrev pub Kind : ℕ → ℕ → Type 0
Kind k c = k ≤ 2

-- the test holds: in order, and of kinds 0 to 2
pub order-in : (lo : ℕ) (l : List Range) → order_b lo l ≡ true → InOrder lo l 1440 × Each Kind l
order-in lo [] h = (leb-true lo 1440 h, tt)
order-in lo (r ∷ l) h =
    let p = both_true (fits_b lo r) (order_b r.end l) h in
    let q = both_true (leb lo r.start) (both (ltb r.start r.end) (leb r.kind 2)) p.0 in
    let w = both_true (ltb r.start r.end) (leb r.kind 2) q.1 in
    let ih = order-in r.end l p.1 in
    ((leb-true _ _ q.0, ltb-true _ _ w.0, ih.0), (leb-true _ _ w.1, ih.1))

-- and the other way
pub in_order : (lo : ℕ) (l : List Range) → InOrder lo l 1440 → Each Kind l → order_b lo l ≡ true
in_order lo [] o k = le-leb lo 1440 o
in_order lo (r ∷ l) o k = rw (le-leb lo r.start o.0, lt-ltb r.start r.end o.1, le-leb r.kind 2 k.0) (in_order r.end l o.2 k.1)
