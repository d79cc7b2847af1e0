-- A quotient and a remainder by powers of two.
use Rattle.bits.proofs.BitsLaws.{one-pos, rest_lt, rest-is}
use Rattle.bits.proofs.cut.Goals as goal

pub nonzero_rem-result : goal.nonzero_rem-result
nonzero_rem-result c = one-pos _ c.requires.2

pub overflow_cast-result : goal.overflow_cast-result
overflow_cast-result c = record { fits = rest_lt _ _ c.requires.2 }

pub returns : goal.returns
returns c = rest-is _ _ c.requires.2
