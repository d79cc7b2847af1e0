-- A sound image that is not empty has a head.
use Rattle.std.proofs.Common.{sym, ◌∙◌}
use Rattle.holiday_image.proofs.Laws.{enough}
use Rattle.holiday_image.proofs.SoundImage.new.Goals as goal

pub of-years-requires : goal.of-years-requires
of-years-requires c = λ h. enough _ (sym c.is_sound.ensures ∙ c.if-not-is_sound.false) h
