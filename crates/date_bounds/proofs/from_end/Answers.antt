-- The same from the last day, going back.
use mathlib.Core.Path.{ap, sym, ◌∙◌}
use Prim.Native.Nat.{◌+◌}
use native.Mathlib.Omega.{arith}
use Rattle.calendar.proofs.Weeks.{weekday-low}
use Rattle.date_bounds.specs.Bounds.{backward, kth}
use Rattle.date_bounds.proofs.Nth.{none, end-hit, end-miss}
use Rattle.date_bounds.proofs.from_end.Goals as goal

pub returns-then-k-eq0 : goal.returns-then-k-eq0
returns-then-k-eq0 c =
    let a = c.args in
    none a.weekday (backward a.b a.c) ∙ ap (λ j. kth a.weekday j (backward a.b a.c)) (sym c.if-k-eq0.true)

pub overflow_add-past : goal.overflow_add-past
overflow_add-past c = omega (arith, c.weekday_of.ensures, weekday-low (c.args.b + c.args.c))

pub returns-then-past-c : goal.returns-then-past-c
returns-then-past-c c =
    let a = c.args in
    end-hit a.b a.c a.weekday a.k c.weekday_of.result c.requires.2 (omega arith) c.weekday_of.ensures c.if-past-c.true

pub returns-else-past-c : goal.returns-else-past-c
returns-else-past-c c =
    let a = c.args in
    end-miss a.b a.c a.weekday a.k c.weekday_of.result c.requires.2 (omega arith) c.weekday_of.ensures c.if-past-c.false
