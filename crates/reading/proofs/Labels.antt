-- Labels are carried along and never asked: under any two of them the reading shows the same states.
use mathlib.Core.Path.{◌≡◌, refl, sym, ap, ◌∙◌}
use mathlib.Core.Bool.{Bool, true, false, ◌&&◌, ◌||◌}
use mathlib.Core.Option.{Option, none, some}
use mathlib.Core.List.{List, [], ◌∷◌}
use Prim.Native.Nat.{ℕ, ◌+◌}
use Rattle.reading.specs.Ruled.{Part, Ruled}
use Rattle.reading.specs.Operators.{Turn, start, when, turn}
use Rattle.reading.specs.Reading.{Seen, state_of, above, dim, shut_m, lay_m, part_m, minute_m, own_m, read_m, shown_by, reading}
use Rattle.reading.proofs.Likeness.{LikeO, LikeT, like-start, like-turn}
use Rattle.reading.proofs.Minutes.{above-state, state-if, dim_s, dim-state, throughout-same}

-- the same states
record Same {L M : Type 0} (f : ℕ → Seen L) (g : ℕ → Seen M) : Type 0 where
  at : (t : ℕ) → state_of (f t) ≡ state_of (g t)

module _ {L M : Type 0} where
  same-shut : (f : ℕ → Seen L) (g : ℕ → Seen M) → Same f g → shut_m f ≡ shut_m g
  same-shut f g h = throughout-same 1440 (λ t. dim (f t)) (λ t. dim (g t)) (λ t. dim-state (f t) ∙ ap dim_s (h.at t) ∙ sym (dim-state (g t)))

  same_above : (a b : Seen L) (c d : Seen M) → state_of a ≡ state_of c → state_of b ≡ state_of d → state_of (above a b) ≡ state_of (above c d)
  same_above a b c d p q = above-state a b ∙ rw (p, q) (sym (above-state c d))

  same-when : (b : Bool) (f : ℕ → Seen L) (g : ℕ → Seen M) → Same f g → LikeO Same (when b f) (when b g)
  same-when true f g h = h
  same-when false f g h = tt

  same-part : (x : L) (y : M) (c : ℕ) (p : Part) (t : ℕ) → state_of (part_m x c p t) ≡ state_of (part_m y c p t)
  same-part x y c p t = state-if (p.on && p.covers t) p.kind c x ∙ sym (state-if (p.on && p.covers t) p.kind c y)

  same-shown : (x : Option (ℕ → Seen L)) (y : Option (ℕ → Seen M)) (t : ℕ) → LikeO Same x y → state_of (shown_by x t) ≡ state_of (shown_by y t)
  same-shown none none t h = refl
  same-shown none (some g) t h = absurd h
  same-shown (some f) none t h = absurd h
  same-shown (some f) (some g) t h = h.at t

  module _ (lab : ℕ → Bool → L) (lab' : ℕ → Bool → M) where
    same-own : (n : ℕ) (m : Ruled) → LikeT Same (own_m lab n m) (own_m lab' n m)
    same-own n m = record {
      matched = refl;
      eval = same-when (m.today.on || m.night.on) (minute_m lab n m) (minute_m lab' n m) (record {
        at = λ t. same_above (part_m (lab n true) m.comment m.night (t + 1440)) (part_m (lab n false) m.comment m.today t)
            (part_m (lab' n true) m.comment m.night (t + 1440)) (part_m (lab' n false) m.comment m.today t)
            (same-part (lab n true) (lab' n true) m.comment m.night (t + 1440)) (same-part (lab n false) (lab' n false) m.comment m.today t);
      });
    }

    same_read : (n : ℕ) (ms : List Ruled) (s : Turn (ℕ → Seen L)) (t : Turn (ℕ → Seen M)) → LikeT Same s t → LikeT Same (read_m lab n ms s) (read_m lab' n ms t)
    same_read n [] s t y = y
    same_read n (m ∷ ms) s t y =
        same_read (n + 1) ms (turn shut_m lay_m m.operator m.kind s (own_m lab n m)) (turn shut_m lay_m m.operator m.kind t (own_m lab' n m))
        (like-turn Same shut_m lay_m shut_m lay_m same-shut
        (λ a c b d p q. record { at = λ t. same_above (c t) (a t) (d t) (b t) (q.at t) (p.at t) })
        s (own_m lab n m) t (own_m lab' n m) y (same-own n m) m.operator m.kind)

    -- THEOREM: the states of the reading are the same under any labels
    pub any-label : (ms : List Ruled) (t : ℕ) → state_of (reading lab ms t) ≡ state_of (reading lab' ms t)
    any-label ms t = same-shown (read_m lab 0 ms start).eval (read_m lab' 0 ms start).eval t (same_read 0 ms start start (like-start Same)).eval
