-- The shifted day is a day, whose weekday and flags are asked.
use mathlib.Core.Path.{◌≡◌, ap, ◌∙◌}
use native.Mathlib.Omega.{arith}
use Rattle.calendar.specs.Moved.{moved_back}
use Rattle.calendar.proofs.Offsets.{moved_back-low, again}
use Rattle.date_items.specs.Items.{shifted, weekday_on, weekday_matches}
use Rattle.date_items.proofs.Laws.{is-day, own-number}
use Rattle.date_items.proofs.weekday_matches.Goals as goal
use Rattle.date_items.proofs.weekday_matches.Goals.{After-shifted}

moved : (c : After-shifted) → c.shifted.result ≡ shifted c.args.d c.args.offset
moved c = c.shifted.ensures ∙ ap (shifted c.args.d) (again c.args.offset c.requires.3)

pub weekday_on-requires : goal.weekday_on-requires
unfolding shifted
weekday_on-requires c =
    let n = c.args.d.number in
    let z = c.args.offset in
    let e = moved (goal.at.weekday_on-requires c).After-shifted in (
      is-day c.shifted.result (moved_back n z) e,
      omega (arith, own-number c.shifted.result (moved_back n z) e, moved_back-low n z, c.requires.1, c.requires.3),
    )

pub returns : goal.returns
unfolding weekday_matches
returns c =
    let a = c.args in
    c.weekday_on.ensures ∙ ap (weekday_on a.start a.end a.firsts a.lasts) (moved (goal.at.returns c).After-shifted)
