-- Month by month and year by year: what has passed is without a holiday, and the first bit that is left is the answer.
use Rattle.std.proofs.Common.{arith, refl, sym, ◌∙◌}
use Rattle.calendar.specs.Calendar.{day_number}
use Rattle.holiday_image.proofs.Laws.{sum-high}
use Rattle.holidays.proofs.WalkLaws.{Here, begin, passed-few, in-years, month-done, found, year-done, next-year, ended}
use Rattle.holidays.proofs.first_from.Goals as goal
use Rattle.holidays.proofs.first_from.Goals.{In-loop-month}

pub overflow_add-year-end : goal.overflow_add-year-end
overflow_add-year-end c =
    let i = c.args.image in
    omega (arith, i.first, i.count, sum-high _ i.sound)

pub loop-year-init : goal.loop-year-init
loop-year-init c = begin _ _ _ refl c.requires.0 c.requires.1

pub loop-month-init : goal.loop-month-init
loop-month-init c =
    let h = c.loop-year.invariant in
    record { same = h.same; low = h.month_low; room = λ k. h.passed; done = λ k. absurd (omega (arith, h.month_high)) }

-- where the walk stands
here : (c : In-loop-month) → Here c.args.image.bytes.now (day_number c.args.from) c.loop-year.year c.loop-month.month c.loop-month.passed
here c =
    record {
      from = c.loop-year.invariant.from;
      month_low = c.loop-month.invariant.low;
      month_high = c.loop-month-test.true;
      passed = c.loop-month.invariant.room c.loop-month-test.true;
      same = c.loop-month.invariant.same;
    }

pub days_left-left-requires : goal.days_left-left-requires
days_left-left-requires c =
    let h = here (goal.at.days_left-left-requires c).In-loop-month in
    let i = c.args.image in
    (in-years _ _ _ _ _ h (omega (arith, i.first, i.count, c.loop-year-test.true)), passed-few _ _ _ _ _ h)

pub loop-month-preserved : goal.loop-month-preserved
loop-month-preserved c =
    let i = c.args.image in
    record {
      same =
          month-done _ _ _ _ _ (here (goal.at.loop-month-preserved c).In-loop-month) _ i.sound (omega (arith, i.first, i.count, c.loop-year-test.true)) c.days_left-left.ensures
          c.if-left-ne0.false;
      low = omega arith;
      room = λ h. omega arith;
      done = λ h. refl;
    }

pub loop-year-preserved : goal.loop-year-preserved
loop-year-preserved c =
    let h = c.loop-year.invariant in
    let m = c.loop-month.invariant in
    let z = m.done c.loop-month-test.false in
    rw z (next-year _ _ _ _ _ h (sym h.same ∙ year-done _ _ _ _ _ (omega arith) z m.same))

pub returns-then-left-ne0 : goal.returns-then-left-ne0
returns-then-left-ne0 c =
    let i = c.args.image in
    found _ _ _ _ _ (here (goal.at.returns-then-left-ne0 c).In-loop-month) _ i.sound (omega (arith, i.first, i.count, c.loop-year-test.true)) c.days_left-left.ensures c.if-left-ne0.true

pub returns-after-loop-year : goal.returns-after-loop-year
returns-after-loop-year c = ended _ _ _ _ _ c.loop-year.invariant (omega (arith, c.args.image.first, c.args.image.count))
