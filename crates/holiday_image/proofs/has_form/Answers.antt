-- The two tests in turn, on the head's numbers.
use Rattle.std.proofs.Common.{◌≡◌, ℕ, ◌+◌, ◌%◌, ◌/◌, arith}
use Rattle.std.specs.Prelude.{min}
use Rattle.holiday_image.proofs.Laws.{form-yes}
use Rattle.holiday_image.proofs.has_form.Goals as goal

-- bytes that hold n bits
bytes-of : (n : ℕ) → n / 8 + min 1 (n % 8) ≡ (n + 7) / 8
bytes-of n = omega arith

pub returns-then-fit : goal.returns-then-fit
returns-then-fit c = rw (c.div_ceil.ensures, bytes-of, c.end_bit.ensures) (form-yes _ _ _ c.of-years.ensures c.fit.ensures c.if-fit.true)
