-- `easter::easter` meets its contract: what the code computes is the formula, which agrees with the reckoning on every year to 12000.
use Rattle.easter.proofs.Formula.{h-of, l-of, m-of, result, room}
use Rattle.easter.proofs.easter.Goals as goal

pub overflow_sub-l-2 : goal.overflow_sub-l-2
overflow_sub-l-2 c = room _ _ _ _

pub returns : goal.returns
unfolding h-of l-of m-of
returns c = result c.args.year c.requires
