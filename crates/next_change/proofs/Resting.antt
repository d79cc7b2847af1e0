-- The loop over the days: the search from here gives what the search from the asked minute gives.
use mathlib.Core.Path.{◌≡◌, sym, ap, subst, ◌∙◌}
use Prim.Native.Nat.{ℕ, suc, ◌+◌, ◌-◌, ◌≤◌, ◌<◌}
use native.Mathlib.Omega.{arith}
use borrow.Author.Tests.{lt-ltb, le-ltb}
use Rattle.std.specs.Prelude.{Some, None}
use Rattle.ranges.proofs.Cases.{split}
use Rattle.ranges.specs.States.{Shown}
use Rattle.changes.specs.Search.{today, Told, refuses, tells, stopped, changes, never, look_at, search, next_change}
use Rattle.next_change.specs.Looking.{held, from, Looks}
use Rattle.next_change.specs.declared.Look.{Look}
use Rattle.next_change.specs.declared.Since.{Since}
use Rattle.next_change.specs.declared.Since.TheVariants.{Minute, Before}

-- a minute of today is before 24:00
today_some : (z m : ℕ) → today z ≡ Some m → (z ≡ m) × (m < 1440)
today_some z m e =
    split z 1440
    (λ h. let q : Some z ≡ Some m = rw (lt-ltb z 1440 h) at e in let p : z ≡ m = cc in (p, omega arith))
    (λ h. absurd (let q : None ≡ Some m = rw (le-ltb z 1440 h) at e in cc))

-- and any other is not
today_none : (z : ℕ) → today z ≡ None → 1440 ≤ z
today_none z e = split z 1440 (λ h. absurd (let q : Some z ≡ None = rw (lt-ltb z 1440 h) at e in cc)) (λ h. h)

pub record Rests (day : ℕ → Told) (n t count : ℕ) (since : Since) (i : ℕ) : Type 0 where
  pub upto : i ≤ count
  pub early : from since ≤ 1440
  pub same : next_change day n t count ≡ search day (held since (day (n + i))) (from since) (n + i) (count - i) i

-- at the start all the days are left
pub rest-begin : (day : ℕ → Told) (n t count : ℕ) → t < 1440 → Rests day n t count (Minute t) 0
rest-begin day n t count h =
    let a : n + 0 ≡ n = omega arith in let b : count - 0 ≡ count = omega arith in
    record { upto = omega arith; early = omega arith; same = rw (a, b) }

module _ (day : ℕ → Told) (n t count : ℕ) (since : Since) (i : ℕ) (st : Rests day n t count since i) where
  module _ (h : i < count) where
    -- the days left are this one and those behind it, so that the search from the first day is the look at this one
    here : (a : Told) → day (n + i) ≡ a
        → next_change day n t count ≡ look_at a (held since a) (from since) (n + i) (i + 1) (search day (held since a) 0 (n + i + 1) (count - (i + 1)) (i + 1))
    here a e =
        let one : count - i ≡ suc (count - (i + 1)) = omega arith in
        subst
        (λ (z : Told). next_change day n t count ≡ look_at z (held since z) (from since) (n + i) (i + 1) (search day (held since z) 0 (n + i + 1) (count - (i + 1)) (i + 1)))
        e (st.same ∙ ap (λ (k : ℕ). search day (held since (day (n + i))) (from since) (n + i) k i) one)

    -- a refused day stops the search
    pub rest-refused : (r : ℕ) → day (n + i) ≡ refuses r → stopped (n + i) r ≡ next_change day n t count
    rest-refused r e = sym (here (refuses r) e)

    module _ (f : ℕ → Shown) (e : day (n + i) ≡ tells f) (x : Look) (g : Looks f (held since (tells f)) (from since) x) where
      -- a minute before 24:00 is what it finds
      pub rest-changes : (m : ℕ) → x.minute ≡ Some m → changes (n + i) m (i + 1) ≡ next_change day n t count
      rest-changes m q = let p = today_some _ m (sym g.minute ∙ q) in sym (here (tells f) e ∙ rw (p.0, lt-ltb m 1440 p.1))

      -- a calm day leaves that to the days behind, from the state that it held
      pub rest-on : x.minute ≡ None → Rests day n t count (Before x.state) (i + 1)
      rest-on q =
          let v : n + (i + 1) ≡ n + i + 1 = omega arith in
          record { upto = omega arith; early = omega arith; same = here (tells f) e ∙ rw (v, g.state) (rw (le-ltb _ 1440 (today_none _ (sym g.minute ∙ q)))) }

  -- with no day left there is no change
  pub rest_end : count ≤ i → never count ≡ next_change day n t count
  rest_end h =
      let e : i ≡ count = omega (arith, st.upto) in
      let z : count - i ≡ 0 = omega arith in
      sym (rw (z, e) at st.same)
