-- Each form asks its own function.
use mathlib.Core.Path.{◌∙◌}
use Rattle.date_filter.proofs.Laws.{shifted-day, on-fixed, on-holiday}
use Rattle.date_filter.proofs.weekday_item_matches.Goals as goal

pub holiday_on-requires : goal.holiday_on-requires
holiday_on-requires c =
    let p = shifted-day c.args.item.now c.args.d c.requires.1 c.in-Holiday.is _ c.shifted.ensures c.requires.0.low in
    (c.requires.0.sound, p.0, p.1)

pub returns-in-Fixed : goal.returns-in-Fixed
returns-in-Fixed c = rw c.weekday_matches.ensures (on-fixed c.args.item.now _ c.requires.1 _ c.in-Fixed.is)

pub returns-in-Holiday : goal.returns-in-Holiday
returns-in-Holiday c = c.holiday_on.ensures ∙ on-holiday c.args.item.now _ c.requires.1 c.in-Holiday.is _ c.shifted.ensures _
