-- The words behind are moved, then the new ones stored in the gap.
use Rattle.insertion.proofs.Stores.{inserted}
use Rattle.insertion.proofs.insert.Goals as goal

pub returns : goal.returns
returns c = inserted _ _ _ _ _ _ _ _ _ c.planned-plan.ensures c.requires.0 c.count.ensures c.count-2.ensures c.copy_within.ensures.after c.put.ensures c.put-2.ensures
