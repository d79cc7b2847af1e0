-- The offset comes back from its bits, and a day moved by none is itself.
use mathlib.Core.Path.{ap, ◌∙◌}
use Rattle.std.proofs.Common.{arith}
use Rattle.std.proofs.lemmas.Int.{ints}
use Rattle.calendar.specs.Moved.{moved_back}
use Rattle.days.specs.DayOf.{day_of}
use Rattle.date_items.specs.Items.{shifted}
use Rattle.calendar.proofs.Offsets.{not-moved}
use Rattle.date_items.proofs.shifted.Goals as goal

pub returns-then-offset-eq0 : goal.returns-then-offset-eq0
unfolding shifted
returns-then-offset-eq0 c = c.requires.0 ∙ ap day_of (not-moved c.args.d.number c.args.offset c.requires.3 c.if-offset-eq0.true)

pub returns : goal.returns
unfolding shifted
returns c = c.back.ensures ∙ ap (λ z. day_of (moved_back c.args.d.number z)) (omega (arith, ints))
