-- The head, the counts and the five lists in their order.
use mathlib.Core.Path.{ap}
use native.Mathlib.Omega.{arith}
use Rattle.bits.specs.Place.{outcome}
use Rattle.bits.proofs.ReadLaws.{read_is, refused-is, left}
use Rattle.rule_lists.proofs.ListLaws.{rule-made, set-out, left-out, counted, head-left, counts-left, years-left, monthdays-left, weeks-left, weekdays-left, spans-left}
use Rattle.rule_lists.proofs.rule.rule_from.Goals as goal

pub returns-in_err-head : goal.returns-in_err-head
returns-in_err-head c = left _ _ _ _ _ c.from_residual.ensures.1 (head-left _ _ _ _ _ (refused-is _ _ c.in_err-head.ensures.is))

pub returns-in_err-counts : goal.returns-in_err-counts
returns-in_err-counts c =
    left _ _ _ _ _ c.from_residual-in_err-counts.ensures.1
    (counts-left _ _ _ _ _ _ (read_is _ _ c.in_ok-head.ensures.is) (refused-is _ _ c.in_err-counts.ensures.found.is))

pub returns-in_err-end : goal.returns-in_err-end
returns-in_err-end c =
    let k = c.in_ok-counts.ensures.few in
    left _ _ _ _ _ c.from_residual-in_err-end.ensures.1
    (years-left _ _ _ _ _ _ (read_is _ _ c.in_ok-head.ensures.is) _ (read_is _ _ c.in_ok-counts.ensures.found.is)
    (left-out _ _ _ _ c.no_year-years.ensures _ k.ys _ _ c.in_err-end.ensures))

pub returns-in_err-end-2 : goal.returns-in_err-end-2
returns-in_err-end-2 c =
    let k = c.in_ok-counts.ensures.few in
    left _ _ _ _ _ c.from_residual-in_err-end-2.ensures.1
    (monthdays-left _ _ _ _ _ _ (read_is _ _ c.in_ok-head.ensures.is) _ (read_is _ _ c.in_ok-counts.ensures.found.is) _ (set-out _ _ _ _ c.no_year-years.ensures _ k.ys _ _ c.in_ok-end.ensures.0)
    (left-out _ _ _ _ c.no_monthday-monthdays.ensures _ k.ms _ _ c.in_err-end-2.ensures))

pub returns-in_err-end-3 : goal.returns-in_err-end-3
returns-in_err-end-3 c =
    let k = c.in_ok-counts.ensures.few in
    left _ _ _ _ _ c.from_residual-in_err-end-3.ensures.1
    (weeks-left _ _ _ _ _ _ (read_is _ _ c.in_ok-head.ensures.is) _ (read_is _ _ c.in_ok-counts.ensures.found.is) _ (set-out _ _ _ _ c.no_year-years.ensures _ k.ys _ _ c.in_ok-end.ensures.0) _ (set-out _ _ _ _ c.no_monthday-monthdays.ensures _ k.ms _ _ c.in_ok-end-2.ensures.0)
    (left-out _ _ _ _ c.no_week-weeks.ensures _ k.ws _ _ c.in_err-end-3.ensures))

pub returns-in_err-end-4 : goal.returns-in_err-end-4
returns-in_err-end-4 c =
    let k = c.in_ok-counts.ensures.few in
    left _ _ _ _ _ c.from_residual-in_err-end-4.ensures.1
    (weekdays-left _ _ _ _ _ _ (read_is _ _ c.in_ok-head.ensures.is) _ (read_is _ _ c.in_ok-counts.ensures.found.is) _ (set-out _ _ _ _ c.no_year-years.ensures _ k.ys _ _ c.in_ok-end.ensures.0) _ (set-out _ _ _ _ c.no_monthday-monthdays.ensures _ k.ms _ _ c.in_ok-end-2.ensures.0) _ (set-out _ _ _ _ c.no_week-weeks.ensures _ k.ws _ _ c.in_ok-end-3.ensures.0)
    (left-out _ _ _ _ c.no_weekday-weekdays.ensures _ k.ds _ _ c.in_err-end-4.ensures))

pub returns-in_err-end-5 : goal.returns-in_err-end-5
returns-in_err-end-5 c =
    let k = c.in_ok-counts.ensures.few in
    left _ _ _ _ _ c.from_residual-in_err-end-5.ensures.1
    (spans-left _ _ _ _ _ _ (read_is _ _ c.in_ok-head.ensures.is) _ (read_is _ _ c.in_ok-counts.ensures.found.is) _ (set-out _ _ _ _ c.no_year-years.ensures _ k.ys _ _ c.in_ok-end.ensures.0) _ (set-out _ _ _ _ c.no_monthday-monthdays.ensures _ k.ms _ _ c.in_ok-end-2.ensures.0) _ (set-out _ _ _ _ c.no_week-weeks.ensures _ k.ws _ _ c.in_ok-end-3.ensures.0) _ (set-out _ _ _ _ c.no_weekday-weekdays.ensures _ k.ds _ _ c.in_ok-end-4.ensures.0)
    (left-out _ _ _ _ c.no_span-spans.ensures _ k.ts _ _ c.in_err-end-5.ensures))

pub returns : goal.returns
returns c =
    let n = c.in_ok-counts.ensures in
    let k = n.few in
    record {
      is = ap outcome (rule-made _ _ _ _ _ _ _ _ _ _ (read_is _ _ c.in_ok-head.ensures.is) (read_is _ _ n.found.is) (set-out _ _ _ _ c.no_year-years.ensures _ k.ys _ _ c.in_ok-end.ensures.0) (set-out _ _ _ _ c.no_monthday-monthdays.ensures _ k.ms _ _ c.in_ok-end-2.ensures.0) (set-out _ _ _ _ c.no_week-weeks.ensures _ k.ws _ _ c.in_ok-end-3.ensures.0) (set-out _ _ _ _ c.no_weekday-weekdays.ensures _ k.ds _ _ c.in_ok-end-4.ensures.0) (set-out _ _ _ _ c.no_span-spans.ensures _ k.ts _ _ c.in_ok-end-5.ensures.0));
      near = omega (arith, counted c.no_year-years.result _ 42 k.ys, k.ys, counted c.no_monthday-monthdays.result _ 78 k.ms, k.ms, counted c.no_week-weeks.result _ 18 k.ws, k.ws, counted c.no_weekday-weekdays.result _ 27 k.ds, k.ds, counted c.no_span-spans.result _ 30 k.ts, k.ts, c.in_ok-head.ensures.near, n.found.near, c.in_ok-end.ensures.1, c.in_ok-end-2.ensures.1, c.in_ok-end-3.ensures.1, c.in_ok-end-4.ensures.1, c.in_ok-end-5.ensures.1);
    }
