-- Runs of stores: from the back, one run behind another, one in place of another.
use mathlib.Core.Path.{◌≡◌, refl, sym, ap, ◌∙◌}
use mathlib.Core.List.{List, [], ◌∷◌, ◌++◌, append_assoc}
use Prim.Native.Nat.{ℕ, suc, ◌+◌, ◌-◌, ◌≤◌}
use native.Mathlib.Omega.{arith}
use lib.ListN.{length, length-append, take, drop, set}
use lib.Seq.{sets, sets-eq, length-sets, drop-drop, set_comm}
use borrow.Rule.Slice.PartMut.{put_mid}
use Rattle.rendering.specs.declared.Writer.{Writer}
use Rattle.rendering.specs.Writing.{Wrote, Writes}

-- A store behind a run may come before it.
pub back_step : (xs o : List ℕ) (at x : ℕ) → sets (set o (at + length xs) x) at xs ≡ sets o at (xs ++ (x ∷ []))
back_step [] o at x = let e : at + 0 ≡ at = omega arith in rw e
back_step (y ∷ ys) o at x =
    let e : at + suc (length ys) ≡ suc at + length ys = omega arith in
    let other : at + suc (length ys) ≡ at → ⊥ = λ k. omega arith in
    ap (λ (l : List ℕ). sets l (suc at) ys) (set_comm o (at + suc (length ys)) at x y other)
    ∙ rw e (back_step ys (set o at y) (suc at) x)

-- A run behind a run is one run.
pub two_runs : (xs ys o : List ℕ) (at : ℕ) → sets (sets o at xs) (at + length xs) ys ≡ sets o at (xs ++ ys)
two_runs [] ys o at = let e : at + 0 ≡ at = omega arith in rw e
two_runs (x ∷ xs) ys o at =
    let e : at + suc (length xs) ≡ suc at + length xs = omega arith in rw e (two_runs xs ys (set o at x) (suc at))

-- What is written behind what was written.
pub then : (xs ys o o₁ o₂ : List ℕ) (at r₁ r₂ : ℕ) → Wrote o at xs o₁ r₁ → Wrote o₁ r₁ ys o₂ r₂ → Wrote o at (xs ++ ys) o₂ r₂
then xs ys o o₁ o₂ at r₁ r₂ f s =
    record {
      next = omega (arith, length-append xs ys);
      holds = s.holds ∙ rw (f.next, f.holds) (two_runs xs ys o at);
    }

-- A part of a list put in place of another.
pub put_in : (o xs : List ℕ) (at : ℕ) → at + length xs ≤ length o → Wrote o at xs (put_mid at (at + length xs - at) o xs) (at + length xs)
put_in o xs at h =
    let k : at + length xs - at ≡ length xs = omega arith in
    record { next = refl; holds = rw (k, sets-eq xs o at h, drop-drop (length xs) at o) (sym (append_assoc (take at o) xs (drop (at + length xs) o))) }

-- What is written behind what was written.
pub behind : (xs ys : List ℕ) {a b c : Writer} → Writes a xs b → Writes b ys c → Writes a (xs ++ ys) c
behind xs ys f s =
    record { same = s.same ∙ f.same; size = s.size ∙ f.size; is = then xs ys _ _ _ _ _ _ f.is s.is }

-- A write into lent bytes leaves as many.
pub kept : (o xs o' : List ℕ) (at r : ℕ) → Wrote o at xs o' r → length o' ≡ length o
kept o xs o' at r w = ap length w.holds ∙ length-sets o at xs

pub nothing : (w : Writer) → Writes w [] w
nothing w = record { same = refl; size = refl; is = record { next = omega arith; holds = refl } }
