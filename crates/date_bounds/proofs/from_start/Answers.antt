-- The first such day lies at the gap from the first day's weekday, and the others a week apart.
use mathlib.Core.Path.{ap, sym, ◌∙◌}
use Prim.Native.Nat.{◌+◌}
use native.Mathlib.Omega.{arith}
use Rattle.calendar.proofs.Weeks.{weekday-low}
use Rattle.date_bounds.specs.Bounds.{forward, kth}
use Rattle.date_bounds.proofs.Nth.{none, start-hit, start-miss}
use Rattle.date_bounds.proofs.from_start.Goals as goal

pub returns-then-k-eq0 : goal.returns-then-k-eq0
returns-then-k-eq0 c =
    let a = c.args in
    none a.weekday (forward a.b a.c) ∙ ap (λ j. kth a.weekday j (forward a.b a.c)) (sym c.if-k-eq0.true)

pub overflow_sub-at : goal.overflow_sub-at
overflow_sub-at c = omega (arith, c.weekday_of.ensures, weekday-low (c.args.b + 1))

pub returns-then-at-c : goal.returns-then-at-c
returns-then-at-c c =
    let a = c.args in
    start-hit a.b a.c a.weekday a.k c.weekday_of.result c.requires.2 (omega arith) c.weekday_of.ensures c.if-at-c.true

pub returns-else-at-c : goal.returns-else-at-c
returns-else-at-c c =
    let a = c.args in
    start-miss a.b a.c a.weekday a.k c.weekday_of.result c.requires.2 (omega arith) c.weekday_of.ensures c.if-at-c.false
