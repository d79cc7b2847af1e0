-- The ranges in front and those behind are found by where they end.
use Rattle.std.proofs.Common.{arith}
use Rattle.std.proofs.lemmas.List.{take_rest}
use Rattle.insertion.proofs.Planning.{planned_is}
use Rattle.insertion.proofs.planned.Goals as goal

pub returns : goal.returns
returns c =
    planned_is _ _ _ _ _ _ _ _ c.requires.0 c.start-s.ensures.0 c.end-e.ensures.0 (omega (arith, c.start-s.ensures.0, c.end-e.ensures.0, c.requires.1))
    c.passed-k.ensures.upto c.passed-k.ensures.low (simp take_rest at c.passed.ensures.upto) (simp take_rest at c.passed.ensures.low)
    (simp take_rest at c.right_of-right.ensures) (simp take_rest at c.left_of-left.ensures)
