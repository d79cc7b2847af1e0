-- The room holds the first schedule, then the sum.
use Rattle.std.proofs.Common.{rules}
use Rattle.schedule.proofs.Answers.{add_ready}
use Rattle.schedule.proofs.added.Goals as goal

pub add_in-n-requires : goal.add_in-n-requires
add_in-n-requires c = add_ready c.args.a c.args.b c.requires.0 c.requires.1 (search rules) (search rules) _ _ c.copy_in.ensures (search rules)
