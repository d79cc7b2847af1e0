-- What is kept so far and what is left to look at make the whole.
use Rattle.schedule.proofs.Dropping.{Dropping}
use Rattle.schedule.proofs.drop_in.Given as goal

abbrev pub invariant-loop-i : goal.invariant-loop-i
invariant-loop-i l = Dropping l.initial.room l.n l.room l.kept l.i
