-- All rules had their turn.
use native.Mathlib.Omega.{arith}
use Rattle.opening_hours.proofs.Folding.{finished}
use Rattle.opening_hours.proofs.evaluate.Goals as goal

pub returns : goal.returns
returns c = finished _ _ _ c.args.rules.now c.loop-i.held _ _ c.loop-i.invariant c.loop-i-test.false _ _ (omega (arith, c.requires.room)) c.day_list.ensures
