-- What is held so far and the rules that are left give the whole.
use Rattle.opening_hours.proofs.Folding.{Folding}
use Rattle.opening_hours.proofs.evaluate.Given as goal

abbrev pub invariant-loop-i : goal.invariant-loop-i
invariant-loop-i l = Folding l.h l.row l.today.number l.rules l.held l.room l.i
