-- A month of 31 days has no bit behind it; the others' bits make a number.
use borrow.Author.Tests.{le-leb}
use Rattle.holiday_image.proofs.Laws.{behind-none, behind-said}
use Rattle.holiday_image.proofs.month_is_real.Goals as goal

pub returns-then-length-ge31 : goal.returns-then-length-ge31
returns-then-length-ge31 c = rw (le-leb _ _ c.if-length-ge31.true) (behind-none _ _ _ _ _ c.month_length-length.ensures c.if-length-ge31.true)

pub returns-else-length-ge31 : goal.returns-else-length-ge31
returns-else-length-ge31 c = behind-said _ _ _ _ _ _ c.month_length-length.ensures c.bits_at.ensures
