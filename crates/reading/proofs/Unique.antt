-- The stored ranges are the maximal runs of equal shown states, so the minutes decide them: where two lists of runs first differ, one would show what the other does not.
use mathlib.Core.Path.{◌≡◌, refl, sym, ap, ◌∙◌}
use mathlib.Core.Bool.{false≢true}
use mathlib.Core.List.{List, [], ◌∷◌}
use Prim.Native.Nat.{ℕ, ◌≤◌, ◌<◌}
use native.Mathlib.Omega.{arith}
use Rattle.ranges.specs.Range.{Range}
use Rattle.ranges.specs.States.{dark, shows, state_at, InOrder}
use Rattle.ranges.proofs.Cases.{split}
use Rattle.ranges.proofs.Points.{on, off}
use Rattle.ranges.proofs.Orders.{in_end}
use Rattle.ranges.proofs.Closing.{dark-before}
use Rattle.ranges.proofs.Builds.{touch-same}
use Rattle.ranges.proofs.Runs.{Stops, Joined}
use Rattle.reading.specs.Reading.{Seen}
use Rattle.reading.proofs.Fairness.{Fair}

kinds : (k c j e : ℕ) → shows k c ≡ shows j e → k ≡ j
kinds k c j e h = cc

comments : (k c j e : ℕ) → shows k c ≡ shows j e → c ≡ e
comments k c j e h = cc

not-dark : (k c : ℕ) → dark ≡ shows k c → ⊥
not-dark k c h = let z : ◌≡◌ {A = ℕ} 0 1 = cc in omega arith

neither : (m n : ℕ) → (m < n → ⊥) → (n < m → ⊥) → m ≡ n
neither m n f g = split m n (λ i. absurd (f i)) (λ i. split n m (λ q. absurd (g q)) (λ q. omega arith))

-- a run's end is no minute of its state
run_ends : (r : Range) (l : List Range) → InOrder r.end l 1440 → Stops r l → state_at l r.end ≡ shows r.kind r.comment → ⊥
run_ends r [] o j h = not-dark r.kind r.comment h
run_ends r (x ∷ l) o j h =
    let p = o.0 in let q = o.1 in
    split r.end x.start
    (λ i. not-dark r.kind r.comment (sym (dark-before x.start 1440 (x ∷ l) r.end (omega arith, q, o.2) i) ∙ h))
    (λ i. let u : shows x.kind x.comment ≡ shows r.kind r.comment = rw (on x r.end i (omega arith)) at h in
    let e : r.end ≡ x.start = omega arith in
    false≢true (sym j ∙ touch-same r.kind r.comment r x e (refl, refl) (kinds _ _ _ _ u, comments _ _ _ _ u)))

module _ (lo : ℕ) (r s : Range) (a b : List Range) (o : InOrder lo (r ∷ a) 1440) (p : InOrder lo (s ∷ b) 1440)
    (h : (t : ℕ) → lo ≤ t → t < 1440 → state_at (r ∷ a) t ≡ state_at (s ∷ b) t) where
  -- the first run is not the earlier
  earlier : r.start < s.start → ⊥
  earlier i =
      let o₀ = o.0 in let o₁ = o.1 in let z = in_end r.end 1440 a o.2 in
      let u : shows r.kind r.comment ≡ state_at (s ∷ b) r.start = rw (on r r.start (omega arith) o₁) at (h r.start o₀ (omega arith)) in
      not-dark r.kind r.comment (sym (dark-before s.start 1440 (s ∷ b) r.start (omega arith, p.1, p.2) i) ∙ sym u)

  module _ (e : r.start ≡ s.start) where
    state-same : shows r.kind r.comment ≡ shows s.kind s.comment
    state-same =
        let o₀ = o.0 in let o₁ = o.1 in let p₁ = p.1 in let z = in_end r.end 1440 a o.2 in
        rw (on r r.start (omega arith) o₁, on s r.start (omega arith) (omega arith)) at (h r.start o₀ (omega arith))

    -- nor the shorter
    shorter : Stops r a → r.end < s.end → ⊥
    shorter j i =
        let o₀ = o.0 in let o₁ = o.1 in let p₁ = p.1 in let z = in_end s.end 1440 b p.2 in
        let u : state_at a r.end ≡ shows s.kind s.comment = rw (off r r.end (omega arith), on s r.end (omega arith) i) at (h r.end (omega arith) (omega arith)) in
        run_ends r a o.2 j (u ∙ sym state-same)

pub same_runs : (lo : ℕ) (a b : List Range) → InOrder lo a 1440 → InOrder lo b 1440 → Joined a → Joined b
    → ((t : ℕ) → lo ≤ t → t < 1440 → state_at a t ≡ state_at b t) → a ≡ b
same_runs lo [] [] o p j k h = refl
same_runs lo [] (s ∷ b) o p j k h =
    let p₀ = p.0 in let p₁ = p.1 in let z = in_end s.end 1440 b p.2 in
    let u : dark ≡ shows s.kind s.comment = rw (on s s.start (omega arith) p₁) at (h s.start p₀ (omega arith)) in
    absurd (not-dark _ _ u)
same_runs lo (r ∷ a) [] o p j k h =
    let o₀ = o.0 in let o₁ = o.1 in let z = in_end r.end 1440 a o.2 in
    let u : shows r.kind r.comment ≡ dark = rw (on r r.start (omega arith) o₁) at (h r.start o₀ (omega arith)) in
    absurd (not-dark _ _ (sym u))
same_runs lo (r ∷ a) (s ∷ b) o p j k h =
    let o₀ = o.0 in let o₁ = o.1 in let p₀ = p.0 in let p₁ = p.1 in
    let g : (t : ℕ) → lo ≤ t → t < 1440 → state_at (s ∷ b) t ≡ state_at (r ∷ a) t = λ t u v. sym (h t u v) in
    let e : r.start ≡ s.start = neither r.start s.start (earlier lo r s a b o p h) (earlier lo s r b a p o g) in
    let w : r.end ≡ s.end = neither r.end s.end (shorter lo r s a b o p h e j.0) (shorter lo s r b a p o g (sym e) k.0) in
    let u = state-same lo r s a b o p h e in
    let q : r ≡ s = rw (e, w, kinds _ _ _ _ u, comments _ _ _ _ u) in
    let t : a ≡ b = same_runs r.end a b o.2 (rw w p.2) j.1 k.1
    (λ t i v. rw (off r t (omega arith), off s t (omega arith)) at (h t (omega arith) v)) in
    ap (λ (x : Range). x ∷ a) q ∙ ap (λ (l : List Range). s ∷ l) t

-- THEOREM: the minutes decide the stored ranges, and so how many they are
pub only-runs : (P : ℕ → ℕ → Type 0) {L : Type 0} (f : ℕ → Seen L) (l k : List Range) → Fair P f l → Fair P f k → l ≡ k
only-runs P f l k a b = same_runs 0 l k a.order b.order a.joined b.joined (λ t i h. a.at t h ∙ sym (b.at t h))
