-- The four images by kind, and whether they are certain.
use Rattle.std.specs.Prelude.{ℕ, Bool, cond, List}

-- the four images
pub record Holidays : Type 0 where
  pub public : List ℕ
  pub public_unknown : List ℕ
  pub school : List ℕ
  pub school_unknown : List ℕ

abbrev pub images : List ℕ → List ℕ → List ℕ → List ℕ → Holidays
images a b c d = record { public = a; public_unknown = b; school = c; school_unknown = d }

-- the certain and the unknown image of a kind
unfoldable pub certain_of : Holidays → Bool → List ℕ
certain_of h school = cond school h.school h.public

unfoldable pub unknown_of : Holidays → Bool → List ℕ
unknown_of h school = cond school h.school_unknown h.public_unknown
