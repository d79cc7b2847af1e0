use Rattle.std.proofs.Common.{arith}
use Rattle.schedule.proofs.Building.{span_fits, build_ready, build_more, build_skip, build_end}
use Rattle.schedule.proofs.build_in.Goals as goal

pub from_to-requires : goal.from_to-requires
from_to-requires c = span_fits _ _ _ _ c.requires _ _ _ c.loop-w.invariant _ _ c.in-Some.ensures.steps c.if-s-e.true

pub insert-count-requires : goal.insert-count-requires
insert-count-requires c = build_ready _ _ _ _ c.requires _ _ _ c.loop-w.invariant _ _ c.in-Some.ensures.steps c.if-s-e.true (omega (arith, c.ranges.comment)) _ c.state_of-state.ensures _ c.from_to.ensures

pub loop-w-preserved-then-s-e : goal.loop-w-preserved-then-s-e
loop-w-preserved-then-s-e c = build_more _ _ _ _ c.requires _ _ _ c.loop-w.invariant _ _ c.in-Some.ensures.steps c.if-s-e.true (omega (arith, c.ranges.comment)) _ c.state_of-state.ensures _ c.from_to.ensures _ _ c.insert-count.ensures

pub loop-w-preserved : goal.loop-w-preserved
loop-w-preserved c = build_skip _ _ _ _ c.requires _ _ _ c.loop-w.invariant _ _ c.in-Some.ensures.steps c.if-s-e.false

pub returns : goal.returns
returns c = build_end _ _ _ _ c.requires _ _ _ c.loop-w.invariant c.in-None.ensures.steps.0
