-- A month of one of the image's years lies within the image, so that its bits can be read.
use Rattle.std.proofs.Common.{arith}
use Rattle.holiday_image.proofs.Laws.{in-formed}
use Rattle.holiday_image.proofs.SoundImage.month_days.Goals as goal

pub month_bit-requires : goal.month_bit-requires
month_bit-requires c =
    let f = in-formed _ _ _ c.args.self.sound c.requires in
    let h = c.args.self.first in
    (omega arith, omega arith, omega arith, omega arith)

pub bits_at-requires : goal.bits_at-requires
bits_at-requires c =
    let f = in-formed _ _ _ c.args.self.sound c.requires in
    let h = c.args.self.first in
    (omega arith, omega arith, omega (arith, c.month_bit.ensures), omega (arith, c.month_bit.ensures))
