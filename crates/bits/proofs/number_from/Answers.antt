-- By the field's cases and the test.
use mathlib.Core.Path.{sym, ◌∙◌}
use Rattle.bits.proofs.ReadLaws.{number_past, number-wrong, number-right}
use Rattle.bits.proofs.number_from.Goals as goal

pub returns-in_default : goal.returns-in_default
returns-in_default g c =
    rw (c.refuse.ensures, c.say.ensures)
    (number_past _ _ _ _ _ _ _ _ (sym c.read.ensures ∙ c.in_default.is))

pub returns-then-not-between : goal.returns-then-not-between
returns-then-not-between g c =
    rw c.refuse-then-not-between.ensures
    (number-wrong _ _ _ _ _ _ _ _ _ (sym c.read.ensures ∙ c.in-Some.is)
    (rw (← c.from.ensures, ← c.from-2.ensures, ← c.from-3.ensures) (sym c.between.ensures ∙ c.if-not-between.true)))

pub returns : goal.returns
returns g c =
    number-right _ _ _ _ _ _ _ _ _ (sym c.read.ensures ∙ c.in-Some.is)
    (rw (← c.from.ensures, ← c.from-2.ensures, ← c.from-3.ensures) (sym c.between.ensures ∙ c.if-not-between.false))
