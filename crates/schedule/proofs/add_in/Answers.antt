use Rattle.schedule.proofs.Adding.{add_ready, add_more}
use Rattle.schedule.proofs.add_in.Goals as goal

pub insert-count-requires : goal.insert-count-requires
insert-count-requires c = add_ready _ _ _ c.requires _ _ _ c.loop-w.invariant _ _ c.in-Some.ensures.steps

pub loop-w-preserved : goal.loop-w-preserved
loop-w-preserved c = add_more _ _ _ c.requires _ _ _ c.loop-w.invariant _ _ c.in-Some.ensures.steps _ _ c.insert-count.ensures
