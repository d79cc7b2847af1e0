-- What is left behind the last year is less than a byte, or nothing.
use Rattle.std.proofs.Common.{arith}
use borrow.Author.Tests.{eq-eqb}
use Rattle.holiday_image.proofs.Laws.{fill_none, fill-said}
use Rattle.holiday_image.proofs.fill_is_zero.Goals as goal

pub returns-then-fill-eq0 : goal.returns-then-fill-eq0
returns-then-fill-eq0 c = rw (eq-eqb _ _ c.if-fill-eq0.true) (fill_none _ _ c.of.ensures.count_is (omega arith))

pub returns-else-fill-eq0 : goal.returns-else-fill-eq0
returns-else-fill-eq0 c = fill-said _ _ _ c.of.ensures.count_is (rw c.end_bit-end.ensures at c.bits_at.ensures)
