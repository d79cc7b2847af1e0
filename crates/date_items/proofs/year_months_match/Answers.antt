-- Months counted from the year 0 stand in the order of their days, so that the tests on them decide.
use Rattle.std.proofs.Common.{◌≡◌, ◌∙◌, arith}
use Rattle.std.proofs.lemmas.Grind.{common_steps}
use Rattle.date_items.proofs.Laws.{day-valid, too-soon, in-last, off-last}
use Rattle.date_items.proofs.year_months_match.Goals as goal

pub overflow_add-month : goal.overflow_add-month
overflow_add-month c =
    omega (arith, (day-valid c.args.d c.requires.4 c.requires.5).month_high)

pub returns-then-month-last : goal.returns-then-month-last
returns-then-month-last c =
    let a = c.args in
    let p = c.requires in
    rw c.last_month-last.ensures
    (off-last a.year a.start a.end p.0 p.1 p.2 p.3 a.d p.4 p.5 (omega arith) (λ q. omega (arith, c.last_month-last.ensures, c.if-month-last.true)))

pub returns-then-month-last-2 : goal.returns-then-month-last-2
returns-then-month-last-2 c =
    let a = c.args in
    let p = c.requires in
    in-last a.year a.start a.end p.0 p.1 p.2 p.3 a.d p.4 p.5 (omega arith) (c.if-month-last-2.true ∙ c.last_month-last.ensures)

pub returns-else-month-last-2 : goal.returns-else-month-last-2
returns-else-month-last-2 c =
    let a = c.args in
    let p = c.requires in
    let e = off-last a.year a.start a.end p.0 p.1 p.2 p.3 a.d p.4 p.5 (omega arith) (λ q. omega (arith, c.last_month-last.ensures, c.if-month-last-2.false)) in
    grind (arith, common_steps, e)

pub returns-else-first-month : goal.returns-else-first-month
returns-else-first-month c =
    let a = c.args in
    let p = c.requires in
    let e = too-soon a.year a.start a.end p.0 p.1 p.2 p.3 a.d p.4 p.5 (omega arith) in
    grind (arith, common_steps, e)
