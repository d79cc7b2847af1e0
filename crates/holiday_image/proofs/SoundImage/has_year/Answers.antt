-- The head's numbers are the image's, and end by 10000.
use Rattle.std.proofs.Common.{◌∙◌}
use Rattle.holiday_image.proofs.Laws.{sum_said, has-said}
use Rattle.holiday_image.proofs.SoundImage.has_year.Goals as goal

pub has-requires : goal.has-requires
has-requires c =
    let i = c.args.self in
    sum_said _ _ (record { first_is = i.first; count_is = i.count }) i.sound

pub returns : goal.returns
returns c =
    let i = c.args.self in
    c.has.ensures ∙ has-said _ _ _ (record { first_is = i.first; count_is = i.count })
