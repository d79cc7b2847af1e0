-- A listing is decided by what it shows: at the first entry where two differ in length, the longer would show two states in one.
use mathlib.Core.Path.{◌≡◌, refl, sym, ap, ◌∙◌}
use mathlib.Core.Bool.{true, false≢true}
use mathlib.Core.List.{List, [], ◌∷◌}
use Prim.Native.Nat.{ℕ, ◌≤◌, ◌<◌}
use native.Mathlib.Omega.{arith}
use borrow.Author.Tests.{eq-eqb}
use Rattle.ranges.specs.Range.{Range, same}
use Rattle.ranges.specs.States.{shows, state_at, InOrder}
use Rattle.ranges.proofs.Cases.{split}
use Rattle.ranges.proofs.Points.{on, off}
use Rattle.listing.specs.Listing.{listing, Tiles, Differ, Lists}
use Rattle.listing.proofs.Tiling.{listed}

tiles-end : (lo hi : ℕ) (l : List Range) → Tiles lo l hi → lo ≤ hi
tiles-end lo hi [] o = omega arith
tiles-end lo hi (r ∷ l) o = let p = o.0 in let q = o.1 in omega (arith, tiles-end r.end hi l o.2)

kinds : (k c j e : ℕ) → shows k c ≡ shows j e → k ≡ j
kinds k c j e h = cc

comments : (k c j e : ℕ) → shows k c ≡ shows j e → c ≡ e
comments k c j e h = cc

-- the first entry is not the shorter
shorter : (lo : ℕ) (r s : Range) (a b : List Range) → Tiles lo (r ∷ a) 1440 → Tiles lo (s ∷ b) 1440 → Differ (r ∷ a)
    → ((t : ℕ) → lo ≤ t → t < 1440 → state_at (r ∷ a) t ≡ state_at (s ∷ b) t) → r.end < s.end → ⊥
shorter lo r s [] b o p d h k = let e : r.end ≡ 1440 = o.2 in omega (arith, tiles-end s.end 1440 b p.2)
shorter lo r s (x ∷ a) b o p d h k =
    let o₀ = o.0 in let o₁ = o.1 in let p₀ = p.0 in let p₁ = p.1 in
    let x₀ = o.2.0 in let x₁ = o.2.1 in
    let z = tiles-end s.end 1440 b p.2 in
    let u : shows r.kind r.comment ≡ shows s.kind s.comment = rw (on r lo (omega arith) (omega arith), on s lo (omega arith) (omega arith)) at (h lo (omega arith) (omega arith)) in
    let v : shows x.kind x.comment ≡ shows s.kind s.comment = rw (off r r.end (omega arith), on x r.end (omega arith) (omega arith), on s r.end (omega arith) (omega arith)) at (h r.end (omega arith) (omega arith)) in
    let q : same r x ≡ true = rw (eq-eqb r.kind x.kind (kinds _ _ _ _ (u ∙ sym v)), eq-eqb r.comment x.comment (comments _ _ _ _ (u ∙ sym v))) in
    false≢true (sym d.0 ∙ q)

pub unique : (lo : ℕ) (a b : List Range) → Tiles lo a 1440 → Tiles lo b 1440 → Differ a → Differ b → ((t : ℕ) → lo ≤ t → t < 1440 → state_at a t ≡ state_at b t) → a ≡ b
unique lo [] [] o p d e h = refl
unique lo [] (s ∷ b) o p d e h = let p₀ = p.0 in let p₁ = p.1 in absurd (omega (arith, tiles-end s.end 1440 b p.2))
unique lo (r ∷ a) [] o p d e h = let o₀ = o.0 in let o₁ = o.1 in absurd (omega (arith, tiles-end r.end 1440 a o.2))
unique lo (r ∷ a) (s ∷ b) o p d e h =
    let o₀ = o.0 in let o₁ = o.1 in let p₀ = p.0 in let p₁ = p.1 in
    let z = tiles-end s.end 1440 b p.2 in let y = tiles-end r.end 1440 a o.2 in
    let f = shorter lo r s a b o p d h in
    let g = shorter lo s r b a p o e (λ t i j. sym (h t i j)) in
    let w : r.end ≡ s.end = split r.end s.end (λ k. absurd (f k)) (λ k. split s.end r.end (λ j. absurd (g j)) (λ j. omega arith)) in
    let u : shows r.kind r.comment ≡ shows s.kind s.comment = rw (on r lo (omega arith) (omega arith), on s lo (omega arith) (omega arith)) at (h lo (omega arith) (omega arith)) in
    let q : r ≡ s = rw (o₀ ∙ sym p₀, w, kinds _ _ _ _ u, comments _ _ _ _ u) in
    let t : a ≡ b = unique r.end a b o.2 (rw w p.2) d.1 e.1
    (λ t i j. rw (off r t (omega arith), off s t (omega arith)) at (h t (omega arith) j)) in
    ap (λ (x : Range). x ∷ a) q ∙ ap (λ (l : List Range). s ∷ l) t

-- THEOREM: the listing is the only list of entries that keeps the rule
pub only-listing : (l e : List Range) → InOrder 0 l 1440 → Lists l e → e ≡ listing l
only-listing l e o h =
    let k = listed l o in
    unique 0 e (listing l) h.tiles k.tiles h.differ k.differ (λ t i j. h.shows_all t j ∙ sym (k.shows_all t j))
