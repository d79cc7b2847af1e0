-- The head's first 22 bits are both numbers of years, one above the other.
use Rattle.std.proofs.Common.{sym, ◌∙◌}
use borrow.Author.Tests.{eqb-true}
use Rattle.holiday_image.proofs.Laws.{years-made, years-none}
use Rattle.holiday_image.proofs.Years.of.Goals as goal

pub returns-then-is_empty : goal.returns-then-is_empty
returns-then-is_empty c = years-none _ (eqb-true _ _ (sym c.is_empty.ensures ∙ c.if-is_empty.true))

pub returns : goal.returns
returns c = years-made _ _ c.bits_at-head.ensures
