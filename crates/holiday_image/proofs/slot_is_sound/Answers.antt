-- An empty image fits every slot; else it has to be sound, and its flags are the slot's.
use Rattle.std.proofs.Common.{◌<◌, length, sym, ◌∙◌}
use borrow.Author.Tests.{eqb-true}
use Rattle.holiday_image.proofs.Laws.{some-byte, enough, slot-empty, slot-no, slot-yes}
use Rattle.holiday_image.proofs.slot_is_sound.Goals as goal
use Rattle.holiday_image.proofs.slot_is_sound.Goals.{Else-is_empty}

-- in this arm there is a byte
some : (c : Else-is_empty) → 0 < length c.args.image.now
some c = some-byte _ (sym c.is_empty.ensures ∙ c.if-is_empty.false)

pub slot_of-requires : goal.slot_of-requires
slot_of-requires c = enough _ (sym c.is_sound.ensures ∙ c.if-is_sound.true) (some (goal.at.slot_of-requires c).Else-is_empty)

pub returns-then-is_empty : goal.returns-then-is_empty
returns-then-is_empty c = c.if-is_empty.true ∙ slot-empty _ (eqb-true _ _ (sym c.is_empty.ensures ∙ c.if-is_empty.true)) _

pub returns-then-is_sound : goal.returns-then-is_sound
returns-then-is_sound c =
    rw c.slot_of.ensures (slot-yes _ (some (goal.at.returns-then-is_sound c).Else-is_empty) (sym c.is_sound.ensures ∙ c.if-is_sound.true) _)

pub returns-else-is_sound : goal.returns-else-is_sound
returns-else-is_sound c =
    c.if-is_sound.false
    ∙ slot-no _ (some (goal.at.returns-else-is_sound c).Else-is_empty) (sym c.is_sound.ensures ∙ c.if-is_sound.false) _
