-- The room holds the first schedule, then the sum.
use Rattle.std.proofs.Common.{rules, arith}
use Rattle.word_schedules.proofs.StoreLaws.{sum_ready, sum_stored}
use Rattle.word_schedules.proofs.added.Goals as goal

pub add_in-n-requires : goal.add_in-n-requires
add_in-n-requires c = sum_ready _ _ c.requires.0 c.requires.1 _ _ c.copy_in.ensures (search rules)

pub returns : goal.returns
returns c = sum_stored c.args.a.now c.args.b.now c.requires.0 c.requires.1 _ _ c.copy_in.ensures _ _ _ c.add_in-n.ensures (search rules) (omega arith) _ _ _ c.store.ensures
