-- The program's input: its parts one behind the other, big-endian, and no more.
use Rattle.std.specs.Prelude.{ℕ, ◌/◌, ◌%◌, List, [], ◌∷◌, ◌++◌, length}

-- the rules, the four events, the four holiday images and the date
pub record Parts : Type 0 where
  pub rules : List ℕ
  pub dawn : ℕ
  pub sunrise : ℕ
  pub sunset : ℕ
  pub dusk : ℕ
  pub public : List ℕ
  pub public_unknown : List ℕ
  pub school : List ℕ
  pub school_unknown : List ℕ
  pub year : ℕ
  pub month : ℕ
  pub day : ℕ

-- a u16, most significant byte first
abbrev pub half : ℕ → List ℕ
half n = n / 256 ∷ n % 256 ∷ []

-- bytes behind their length
unfoldable pub sized : List ℕ → List ℕ
sized xs = half (length xs) ++ xs

abbrev pub event_bytes : Parts → List ℕ
event_bytes p = half p.dawn ++ (half p.sunrise ++ (half p.sunset ++ half p.dusk))

abbrev pub date_bytes : Parts → List ℕ
date_bytes p = half p.year ++ (half p.month ++ half p.day)

-- THE FORM: the input that has these parts
unfoldable pub framed : Parts → List ℕ
framed p =
    sized p.rules ++ (event_bytes p ++ (sized p.public ++ (sized p.public_unknown ++ (sized p.school ++ (sized p.school_unknown ++ date_bytes p)))))
