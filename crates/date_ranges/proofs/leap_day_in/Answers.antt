-- 29 February is the 60th day; both offsets come back from their bits.
use mathlib.Core.Path.{◌≡◌, ap, sym, ◌∙◌}
use Prim.Native.Nat.{◌+◌, ◌≤◌}
use native.Mathlib.Omega.{arith}
use lib.IntN.{nat_abs}
use mir.Syntax.{w32}
use mir.Val.{to_z, of_z}
use Rattle.std.proofs.lemmas.Int.{ints}
use Rattle.calendar.proofs.Days.{years-low, years-high}
use Rattle.calendar.specs.Moved.{moved}
use Rattle.date_ranges.specs.Ranges.{inside}
use Rattle.date_ranges.proofs.Laws.{leap-yes, leap-no}
use Rattle.date_ranges.proofs.leap_day_in.Goals as goal
use Rattle.date_ranges.proofs.leap_day_in.Goals.{Start}

range : (c : Start) → (657000 ≤ c.args.on.before) × (c.args.on.before ≤ 3660366)
range c = omega (arith, c.args.on.counted, c.args.on.low, c.args.on.high, years-low c.args.on.year, years-high c.args.on.year)

pub returns-then-not-is_leap : goal.returns-then-not-is_leap
returns-then-not-is_leap c =
    let a = c.args in
    leap-no a.a a.b a.n a.on.year a.on.before (sym c.is_leap.ensures ∙ c.if-not-is_leap.true)

pub overflow_add-leap_day : goal.overflow_add-leap_day
overflow_add-leap_day c = omega (arith, range (goal.at.overflow_add-leap_day c).Start)

pub later-start-requires : goal.later-start-requires
later-start-requires c =
    let r = range (goal.at.later-start-requires c).Start in
    let e : to_z w32 (of_z w32 c.from.result) ≡ c.args.a = omega (arith, ints) in
    (omega (arith, r), omega (arith, r), omega (arith, ap nat_abs e, c.requires.0))

pub later-end-requires : goal.later-end-requires
later-end-requires c =
    let r = range (goal.at.later-end-requires c).Start in
    let e : to_z w32 (of_z w32 c.from-2.result) ≡ c.args.b = omega (arith, ints) in
    (omega (arith, r), omega (arith, r), omega (arith, ap nat_abs e, c.requires.1))

pub returns : goal.returns
returns c =
    let a = c.args in
    c.inside.ensures
    ∙ ap (λ x. inside x c.later-end.result a.n) (c.later-start.ensures ∙ ap (moved (a.on.before + 60)) (omega (arith, ints)))
    ∙ ap (λ x. inside (moved (a.on.before + 60) a.a) x a.n) (c.later-end.ensures ∙ ap (moved (a.on.before + 60)) (omega (arith, ints)))
    ∙ leap-yes a.a a.b a.n a.on.year a.on.before (sym c.is_leap.ensures ∙ c.if-not-is_leap.false) c.args.on.counted
