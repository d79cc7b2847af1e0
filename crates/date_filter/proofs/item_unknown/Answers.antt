-- Only a holiday can be unknown, by the unknown image of its kind.
use mathlib.Core.Path.{◌∙◌}
use Rattle.date_filter.proofs.Laws.{shifted-day, unknown_sound, unknown-on, never-unknown}
use Rattle.date_filter.proofs.item_unknown.Goals as goal

pub in_image-requires : goal.in_image-requires
in_image-requires c =
    let p = shifted-day c.args.item.now c.args.d c.requires.1 c.in-Holiday.is _ c.shifted.ensures c.requires.0.low in
    (rw c.unknown.ensures (unknown_sound _ c.requires.0.sound _), p.0, p.1)

pub returns-in-Fixed : goal.returns-in-Fixed
returns-in-Fixed c = never-unknown c.args.item.now _ _ c.in-Fixed.is

pub returns-in-Holiday : goal.returns-in-Holiday
returns-in-Holiday c =
    c.in_image.ensures ∙ rw c.unknown.ensures (unknown-on c.args.item.now _ c.requires.1 c.in-Holiday.is _ c.shifted.ensures _)
