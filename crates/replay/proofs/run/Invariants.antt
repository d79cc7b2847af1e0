-- The tally counts the verdicts so far.
use Rattle.std.specs.Fn.{FnReturnsAtPair}
use Rattle.replay.specs.Replay.{Counts}
use Rattle.replay.proofs.run.Given as goal

abbrev pub invariant-loop : goal.invariant-loop
invariant-loop g l = Counts (FnReturnsAtPair g.F.Fn l.fn.says) l.tally
