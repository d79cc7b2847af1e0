-- Two's complement.
use Rattle.std.specs.Prelude.{ℕ, ◌/◌, ◌<◌, cond, ltb, ℤ, pos, negsuc}
use Rattle.std.proofs.Math.IntN.{sub_ℕ}

-- what a field's value v means in two's complement, m being 2 ^ its width: v below the half, v - m from the half on
unfoldable pub signed_of : ℕ → ℕ → ℤ
signed_of m v = cond (ltb v (m / 2)) (pos v) (sub_ℕ v m)

-- from -h to h - 1
abbrev pub Below : ℕ → ℤ → Type 0
Below h (pos n) = n < h
Below h (negsuc n) = n < h
