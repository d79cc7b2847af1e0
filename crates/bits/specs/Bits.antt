-- The bits of an image, most significant first, and the number that a run of them makes.
use Rattle.std.specs.Prelude.{ℕ, zero, suc, ◌+◌, ◌-◌, ◌*◌, ◌/◌, ◌%◌, ◌^◌, List, Option, Some, None, cond, length, get_or, leb}

-- bit i of an image
abbrev pub bit_at : List ℕ → ℕ → ℕ
bit_at s i = get_or s (i / 8) 0 / 2 ^ (7 - i % 8) % 2

-- the number that the w bits from at make
unfoldable pub bits : List ℕ → ℕ → ℕ → ℕ
bits s at zero = 0
bits s at (suc w) = bits s at w * 2 + bit_at s (at + w)

-- the field of w bits from at, or none where it runs past the image
unfoldable pub field_at : List ℕ → ℕ → ℕ → Option ℕ
field_at s at w = cond (leb (at + w) (8 * length s)) (Some (bits s at w)) None

-- the bits from at to the end of the eight bytes of which the first holds it, from the top of a word of 64 bits
unfoldable pub ahead_of : List ℕ → ℕ → ℕ
ahead_of s at = bits s at (64 - at % 8) * 2 ^ (at % 8)

-- the f bits of a word in front of its last d
abbrev pub part : ℕ → ℕ → ℕ → ℕ
part w d f = w / 2 ^ d % 2 ^ f
