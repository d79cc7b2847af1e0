-- The number that nth is added to tells its sign and its size.
use mathlib.Core.Path.{◌≡◌, ap, ◌∙◌}
use Prim.Native.Nat.{◌≤◌}
use native.Mathlib.Omega.{arith}
use Rattle.std.proofs.lemmas.Int.{ints}
use lib.IntN.{nat_abs}
use mir.Syntax.{w32}
use mir.Val.{to_z, of_z}
use Rattle.calendar.specs.Moved.{moved}
use Rattle.calendar.proofs.Offsets.{moved-high}
use Rattle.date_bounds.proofs.OnYear.{moved-low, forwards, backwards}
use Rattle.date_bounds.proofs.nth_in.Goals as goal
use Rattle.date_bounds.proofs.nth_in.Goals.{After-later-at, Start}

small : (c : Start) → nat_abs c.args.nth ≤ 366
small c = omega (arith, c.requires.3)

at : (c : After-later-at) → c.later-at.result ≡ moved 1000 c.args.nth
at c = c.later-at.ensures ∙ ap (moved 1000) (omega (arith, ints))

pub later-at-requires : goal.later-at-requires
later-at-requires c =
    let e : to_z w32 (of_z w32 c.from.result) ≡ c.args.nth = omega (arith, ints) in
    (omega arith, omega arith, omega (arith, ap nat_abs e, c.requires.3))

pub from_start-requires : goal.from_start-requires
from_start-requires c =
    (c.requires.0, c.requires.1, c.requires.2, omega (arith, at (goal.at.from_start-requires c).After-later-at, moved-high 1000 c.args.nth, c.requires.3))

pub returns-then-at-ge1000 : goal.returns-then-at-ge1000
returns-then-at-ge1000 c =
    let a = c.args in
    c.from_start.ensures ∙ forwards a.b a.c a.weekday a.nth c.later-at.result c.requires.3 (at (goal.at.returns-then-at-ge1000 c).After-later-at) c.if-at-ge1000.true

pub from_end-requires : goal.from_end-requires
from_end-requires c =
    (c.requires.0, c.requires.1, c.requires.2, omega (arith, at (goal.at.from_end-requires c).After-later-at, moved-low 1000 c.args.nth, c.requires.3))

pub returns : goal.returns
returns c =
    let a = c.args in
    c.from_end.ensures ∙ backwards a.b a.c a.weekday a.nth c.later-at.result c.requires.3 (at (goal.at.returns c).After-later-at) c.if-at-ge1000.false
