-- A row of four has no fifth time.
-- Assumes nothing.
use mathlib.Core.Path.{◌≡◌, refl}
use mathlib.Core.List.{[], ◌∷◌}
use Prim.Native.Nat.{ℕ, zero, suc}
use lib.ListN.{get_or}

pub no-fifth : (a b c d x e : ℕ) → (e ≡ 0 → ⊥) → (e ≡ 1 → ⊥) → (e ≡ 2 → ⊥) → (e ≡ 3 → ⊥) → x ≡ get_or (a ∷ b ∷ c ∷ d ∷ []) e x
no-fifth a b c d x zero h i j k = absurd (h refl)
no-fifth a b c d x (suc zero) h i j k = absurd (i refl)
no-fifth a b c d x (suc (suc zero)) h i j k = absurd (j refl)
no-fifth a b c d x (suc (suc (suc zero))) h i j k = absurd (k refl)
no-fifth a b c d x (suc (suc (suc (suc e)))) h i j k = refl
