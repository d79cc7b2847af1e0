-- Two sorts of evaluation that answer alike: where a relation keeps the test and the overlay, every operator keeps it.
use mathlib.Core.Path.{◌≡◌, refl, sym, ap}
use mathlib.Core.Bool.{Bool, true, false, cond, not, ◌&&◌, false≢true}
use mathlib.Core.Option.{Option, none, some}
use Prim.Native.Nat.{ℕ}
use lib.Dec.{eqb}
use Rattle.rules.specs.declared.Operator.{Operator}
use Rattle.rules.specs.declared.Operator.TheVariants.{Normal, Additional, Fallback}
use Rattle.reading.specs.Operators.{Turn, start, lasts, overlaid, normal, additional, fallback, turn}

-- both there and related, or neither there
abbrev pub LikeO : {A B : Type 0} → (A → B → Type 0) → Option A → Option B → Type 0
LikeO R none none = Unit {0}
LikeO R none (some b) = ⊥
LikeO R (some a) none = ⊥
LikeO R (some a) (some b) = R a b

pub record LikeT {A B : Type 0} (R : A → B → Type 0) (s : Turn A) (t : Turn B) : Type 0 where
  pub matched : s.matched ≡ t.matched
  pub eval : LikeO R s.eval t.eval

pub like-start : {A B : Type 0} (R : A → B → Type 0) → LikeT R start start
like-start R = record { matched = refl; eval = tt }

-- a choice that both sides make alike
pick : {X Y : Type 0} (S : X → Y → Type 0) (a b : Bool) → a ≡ b → (p e : X) (q d : Y) → S p q → S e d → S (cond a p e) (cond b q d)
pick S true true z p e q d h k = h
pick S true false z p e q d h k = absurd (false≢true (sym z))
pick S false true z p e q d h k = absurd (false≢true z)
pick S false false z p e q d h k = k

module _ {A B : Type 0} (R : A → B → Type 0) (shut : A → Bool) (lay : A → A → A) (shut' : B → Bool) (lay' : B → B → B)
    (tests : (a : A) (b : B) → R a b → shut a ≡ shut' b) (lays : (a c : A) (b d : B) → R a b → R c d → R (lay a c) (lay' b d)) where
  like-lasts : (x : Option A) (y : Option B) → LikeO R x y → lasts shut x ≡ lasts shut' y
  like-lasts none none h = refl
  like-lasts none (some b) h = absurd h
  like-lasts (some a) none h = absurd h
  like-lasts (some a) (some b) h = ap not (tests a b h)

  like-over : (p e : Option A) (q d : Option B) → LikeO R p q → LikeO R e d → LikeO R (overlaid lay p e) (overlaid lay' q d)
  like-over none e none d h k = k
  like-over none e (some b) d h k = absurd h
  like-over (some a) e none d h k = absurd h
  like-over (some a) none (some b) none h k = h
  like-over (some a) none (some b) (some d) h k = absurd k
  like-over (some a) (some c) (some b) none h k = absurd k
  like-over (some a) (some c) (some b) (some d) h k = lays a c b d h k

  module _ (s e : Turn A) (t d : Turn B) (y : LikeT R s t) (x : LikeT R e d) where
    last : lasts shut s.eval ≡ lasts shut' t.eval
    last = like-lasts s.eval t.eval y.eval

    like-normal : LikeT R (normal shut lay s e) (normal shut' lay' t d)
    like-normal = record {
      matched = rw (y.matched, x.matched);
      eval = pick (LikeO R) e.matched d.matched x.matched _ _ _ _ x.eval
          (pick (LikeO R) (lasts shut s.eval) (lasts shut' t.eval) last _ _ _ _ y.eval x.eval);
    }

    like-additional : LikeT R (additional shut lay s e) (additional shut' lay' t d)
    like-additional = record { matched = rw (y.matched, x.matched); eval = like-over s.eval e.eval t.eval d.eval y.eval x.eval }

    like-fallback : LikeT R (fallback shut lay s e) (fallback shut' lay' t d)
    like-fallback =
        let z : (s.matched && lasts shut s.eval) ≡ (t.matched && lasts shut' t.eval) = rw (y.matched, last) in
        pick (LikeT R) (s.matched && lasts shut s.eval) (t.matched && lasts shut' t.eval) z s e t d y x

    -- THEOREM: a rule's turn keeps the likeness, whatever its operator
    pub like-turn : (o : Operator) (k : ℕ) → LikeT R (turn shut lay o k s e) (turn shut' lay' o k t d)
    like-turn Normal k = pick (LikeT R) (eqb k 1) (eqb k 1) refl _ _ _ _ like-additional like-normal
    like-turn Additional k = like-additional
    like-turn Fallback k = like-fallback
