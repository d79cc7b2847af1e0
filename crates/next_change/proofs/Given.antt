-- A look at a day's words is a look at what the day shows.
use mathlib.Core.Path.{◌≡◌, refl, ap, ◌∙◌}
use mathlib.Core.List.{List, [], ◌∷◌}
use Prim.Native.Nat.{ℕ, ◌+◌, ◌-◌, ◌≤◌, ◌<◌}
use native.Mathlib.Omega.{arith}
use Rattle.ranges.specs.States.{Shown, shows, covers, state_at, lit}
use Rattle.ranges.specs.Words.{range_of, ranges}
use Rattle.ranges.proofs.Cases.{by}
use Rattle.ranges.proofs.WordLaws.{of-kind, of-comment}
use Rattle.listing.specs.Listing.{state_word}
use Rattle.changes.specs.Search.{tells, other, today}
use Rattle.changes.specs.Words.{state_in, shown_in}
use Rattle.changes.proofs.Minutes.{other-same}
use Rattle.next_change.specs.Looking.{held, from, look_in, Looks}
use Rattle.next_change.specs.declared.Since.{Since}
use Rattle.next_change.specs.declared.Since.TheVariants.{Minute, Before}

-- a word's state is held whole in its low ten bits
low_bits : (w : ℕ) → state_in (state_word (state_in w)) ≡ state_in w
low_bits w =
    let v = state_word (state_in w) in
    let k : (range_of v).kind ≡ (range_of w).kind = of-kind v ∙ rw (of-kind w, of-comment w) (omega arith) in
    let c : (range_of v).comment ≡ (range_of w).comment = of-comment v ∙ rw (of-kind w, of-comment w) (omega arith) in
    rw (k, c)

-- the word of a hole
closed-bits : state_in 256 ≡ shows 1 0
unfolding range_of
closed-bits = refl

-- so is the state that words show at a minute
state-back : (l : List ℕ) (t : ℕ) → state_in (state_word (lit (state_at (ranges l) t))) ≡ lit (state_at (ranges l) t)
state-back [] t = closed-bits
state-back (w ∷ l) t = by (covers (range_of w) t) (λ e. rw e (low_bits w)) (λ e. rw e (state-back l t))

-- words that show what the day shows
module _ (f : ℕ → Shown) (xs : List ℕ) (g : (t : ℕ) → t < 1440 → shown_in xs t ≡ f t) where
  -- their first minute of another state is the day's
  first-same : (s : Shown) (t : ℕ) → t ≤ 1440 → other (λ u. shown_in xs u) s t (1440 - t) ≡ other f s t (1440 - t)
  first-same s t h = other-same (λ u. shown_in xs u) f s (1440 - t) t (λ u i j. g u (omega arith))

  -- and the state at a minute is read from them
  pub looks : (since : Since) → from since ≤ 1440 → Looks f (held since (tells f)) (from since) (look_in xs since)
  looks (Before s) h = record { state = refl; minute = ap today (first-same (state_in s) 0 (omega arith)) }
  looks (Minute t) h =
      let q : state_in (state_word (shown_in xs t)) ≡ f t = state-back xs t ∙ g t (omega arith) in
      record { state = q; minute = rw q (ap today (first-same (f t) (t + 1) h)) }
