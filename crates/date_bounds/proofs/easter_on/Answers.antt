-- Easter Sunday falls into its year, so the days before that year are the right ones.
use mathlib.Core.Path.{◌≡◌, ap, ◌∙◌}
use Prim.Native.Nat.{◌≤◌}
use native.Mathlib.Omega.{arith}
use Rattle.calendar.specs.Calendar.{leap, before_month}
use Rattle.calendar.proofs.Days.{months-high, years-high}
use Rattle.date_bounds.proofs.OnYear.{easter-is, easter-month}
use Rattle.date_bounds.proofs.easter_on.Goals as goal
use Rattle.date_bounds.proofs.easter_on.Goals.{After-before_month}

month : (c : After-before_month) → c.before_month.result ≡ before_month (leap c.args.on.year) c.easter-date.result.month
month c = c.before_month.ensures ∙ ap (λ l. before_month l c.easter-date.result.month) c.is_leap-leap.ensures

bounds : (c : After-before_month) →
    (c.args.on.before ≤ 3660366) × (c.before_month.result ≤ 366) × (c.easter-date.result.day ≤ 31)
bounds c =
    let y = c.args.on.year in
    let d = c.easter-date.result in
    let m = easter-month y d c.easter-date.ensures in (
      omega (arith, c.args.on.counted, c.args.on.high, years-high y),
      omega (arith, month c, months-high (leap y) d.month (omega (arith, m.1))),
      m.2,
    )

pub easter-date-requires : goal.easter-date-requires
easter-date-requires c = omega (arith, c.args.on.high)

pub before_month-requires : goal.before_month-requires
before_month-requires c =
    omega (arith, easter-month c.args.on.year c.easter-date.result c.easter-date.ensures)

pub overflow_add-result : goal.overflow_add-result
overflow_add-result c = omega (arith, bounds (goal.at.overflow_add-result c).After-before_month)

pub overflow_add-result-2 : goal.overflow_add-result-2
overflow_add-result-2 c = omega (arith, bounds (goal.at.overflow_add-result-2 c).After-before_month)

pub returns : goal.returns
returns c =
    let a = c.args in
    omega (arith, month (goal.at.returns c).After-before_month, easter-is a.on.year c.easter-date.result c.easter-date.ensures, c.args.on.counted)
