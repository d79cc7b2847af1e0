-- A date that is found is moved by the offset, which comes back from its bits; no date stays none.
use mathlib.Core.Path.{◌≡◌, ap, sym, ◌∙◌}
use lib.IntN.{nat_abs}
use mir.Syntax.{w32}
use mir.Val.{to_z, of_z}
use Rattle.std.proofs.Common.{arith, Some}
use Rattle.std.proofs.lemmas.Int.{ints}
use Rattle.calendar.specs.Moved.{moved}
use Rattle.date_bounds.proofs.OnYear.{can-move, stays, moves}
use Rattle.date_bounds.proofs.bound_on.Goals as goal

pub date_on-requires : goal.date_on-requires
date_on-requires c = (c.requires.0.date, c.requires.1, c.requires.2)

pub returns-in_err-n : goal.returns-in_err-n
returns-in_err-n c =
    let a = c.args in
    c.from_residual.ensures ∙ stays a.side a.d a.year (sym c.date_on.ensures ∙ c.in_err-n.was)

pub later-requires : goal.later-requires
later-requires c =
    let a = c.args in
    let r = can-move a.side a.d.date a.year c.in_ok-n.n c.requires.0.date c.requires.1 c.requires.2 (sym c.date_on.ensures ∙ c.in_ok-n.was) in
    let e : to_z w32 (of_z w32 c.from.result) ≡ a.d.offset = omega (arith, ints) in
    (r.0, omega (arith, r.1), omega (arith, ap nat_abs e, c.requires.0.offset))

pub returns : goal.returns
returns c =
    let a = c.args in
    ap Some (c.later.ensures ∙ ap (moved c.in_ok-n.n) (omega (arith, ints)))
    ∙ moves a.side a.d a.year c.in_ok-n.n (sym c.date_on.ensures ∙ c.in_ok-n.was)
