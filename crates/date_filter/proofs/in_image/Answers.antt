-- A day has a month and a day that an image can be asked for.
use native.Mathlib.Omega.{arith}
use Rattle.date_items.proofs.Laws.{day-valid, in-month}
use Rattle.date_filter.specs.Filter.{in_image}
use Rattle.date_filter.proofs.in_image.Goals as goal

pub contains-requires : goal.contains-requires
contains-requires c =
    let v = day-valid c.args.d c.requires.1 c.requires.2 in
    let m = in-month c.args.d c.requires.1 c.requires.2 in
    (c.requires.0, v.month_low, v.month_high, m.0, omega (arith, m))

pub returns : goal.returns
unfolding in_image
returns c = c.contains.ensures
