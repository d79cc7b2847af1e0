-- A build is decided by what it shows: at the first run where two lists differ, one shows a state and the other nothing.
use mathlib.Core.Path.{◌≡◌, refl, sym, ap, ◌∙◌}
use mathlib.Core.Bool.{cond}
use Rattle.std.specs.Prelude.{Ok}
use Rattle.schedule.specs.declared.Schedule.{Schedule}
use mathlib.Core.List.{List, [], ◌∷◌}
use Prim.Native.Nat.{ℕ, suc, ◌≤◌, ◌<◌}
use native.Mathlib.Omega.{arith}
use Rattle.ranges.specs.Range.{Range}
use Rattle.ranges.specs.States.{dark, shows, state_at, InOrder, Each}
use Rattle.ranges.specs.Build.{covered_b, spans, Apart}
use Rattle.ranges.proofs.Cases.{split}
use Rattle.ranges.proofs.Points.{on, off}
use Rattle.ranges.proofs.Builds.{Is}
use Rattle.ranges.proofs.Closing.{dark-before}
use Rattle.ranges.proofs.WordLaws.{range-eq}
use Rattle.schedule.specs.Schedules.{view, build_of}
use Rattle.schedule.proofs.Meaning.{build-shows, build-apart, build-one, reached-sound, built}

never : (k c : ℕ) → shows k c ≡ dark → ⊥
never k c e = let z : ◌≡◌ {A = ℕ} 0 1 = cc in omega arith

-- behind a run comes a minute that shows nothing
gap : (lo hi : ℕ) (l : List Range) → InOrder lo l hi → Apart (suc lo) l → state_at l lo ≡ dark
gap lo hi [] o a = refl
gap lo hi (x ∷ l) o a = let p = a.0 in let q = o.1 in rw (off x lo (omega arith)) (dark-before x.end hi l lo o.2 (omega arith))

module _ (lo hi : ℕ) (r s : Range) (a b : List Range) (o : InOrder lo (r ∷ a) hi) (p : InOrder lo (s ∷ b) hi)
    (h : (t : ℕ) → lo ≤ t → state_at (r ∷ a) t ≡ state_at (s ∷ b) t) where
  not_earlier : r.start < s.start → ⊥
  not_earlier k =
      let x : state_at (r ∷ a) r.start ≡ shows r.kind r.comment = rw (on r r.start (omega arith) o.1) in
      let y : state_at (s ∷ b) r.start ≡ dark = dark-before s.start hi (s ∷ b) r.start (omega arith, p.1, p.2) k in
      never r.kind r.comment (sym x ∙ h r.start o.0 ∙ y)

  not-shorter : r.start ≡ s.start → Apart (suc r.end) a → r.end < s.end → ⊥
  not-shorter e d k =
      let o₀ = o.0 in let o₁ = o.1 in
      let x : state_at (r ∷ a) r.end ≡ dark = rw (off r r.end (omega arith)) (gap r.end hi a o.2 d) in
      let y : state_at (s ∷ b) r.end ≡ shows s.kind s.comment = rw (on s r.end (omega arith) k) in
      never s.kind s.comment (sym y ∙ sym (h r.end (omega arith)) ∙ x)

one-run : (k c lo m hi : ℕ) (a b : List Range) → InOrder lo a hi → InOrder lo b hi → Apart m a → Apart m b → Each (Is k c) a → Each (Is k c) b
    → ((t : ℕ) → lo ≤ t → state_at a t ≡ state_at b t) → a ≡ b
one-run k c lo m hi [] [] o p d e u v h = refl
one-run k c lo m hi [] (s ∷ b) o p d e u v h =
    let y : state_at (s ∷ b) s.start ≡ shows s.kind s.comment = rw (on s s.start (omega arith) p.1) in
    absurd (never s.kind s.comment (sym y ∙ sym (h s.start p.0)))
one-run k c lo m hi (r ∷ a) [] o p d e u v h =
    let y : state_at (r ∷ a) r.start ≡ shows r.kind r.comment = rw (on r r.start (omega arith) o.1) in
    absurd (never r.kind r.comment (sym y ∙ h r.start o.0))
one-run k c lo m hi (r ∷ a) (s ∷ b) o p d e u v h =
    let o₀ = o.0 in let o₁ = o.1 in let p₀ = p.0 in let p₁ = p.1 in
    let g : (t : ℕ) → lo ≤ t → state_at (s ∷ b) t ≡ state_at (r ∷ a) t = λ t i. sym (h t i) in
    let x : r.start ≡ s.start = split r.start s.start (λ i. absurd (not_earlier lo hi r s a b o p h i)) (λ i. split s.start r.start (λ j. absurd (not_earlier lo hi s r b a p o g j)) (λ j. omega arith)) in
    let w : r.end ≡ s.end = split r.end s.end (λ i. absurd (not-shorter lo hi r s a b o p h x d.1 i)) (λ i. split s.end r.end (λ j. absurd (not-shorter lo hi s r b a p o g (sym x) e.1 j)) (λ j. omega arith)) in
    let q : r ≡ s = range-eq r s.start s.end s.kind s.comment x w (u.0.0 ∙ sym v.0.0) (u.0.1 ∙ sym v.0.1) in
    let z : a ≡ b = one-run k c r.end (suc r.end) hi a b o.2 (rw w p.2) d.1 (rw w e.1) u.1 v.1
    (λ t i. rw (off r t (omega arith), off s t (omega arith)) at (h t (omega arith))) in
    ap (λ (y : Range). y ∷ a) q ∙ ap (λ (l : List Range). s ∷ l) z

-- THEOREM: a build is the only list of maximal runs in its state that shows it exactly where some given span covers
pub build-only : (given : List ℕ) (k c : ℕ) → c < 256 → (s : Schedule) → build_of given k c ≡ Ok s → (l : List Range) → InOrder 0 l 1440 → Apart 0 l → Each (Is k c) l
    → ((t : ℕ) → state_at l t ≡ cond (covered_b (spans given) t) (shows k c) dark) → l ≡ view s
build-only given k c h s z l o a e f =
    one-run k c 0 0 1440 l (view s) o (reached-sound s (built given k c h s z)).order a (build-apart given k c h s z) e (build-one given k c h s z)
    (λ t i. f t ∙ sym (build-shows given k c h s z t))
