use native.Mathlib.Omega.{arith}
use Rattle.rendering.proofs.Stores.{nothing}
use Rattle.rendering.proofs.Lines.{line-more, lined-all}
use Rattle.rendering.proofs.Writer.put_lines.Goals as goal

pub loop-word-init : goal.loop-word-init
loop-word-init c = record { near = omega arith; lines = nothing _ }

pub loop-word-preserved : goal.loop-word-preserved
loop-word-preserved c = line-more _ _ _ _ _ (omega arith) c.loop-word.invariant c.put_line.ensures

pub returns : goal.returns
returns c = lined-all _ _ _ _ (omega arith) c.loop-word.invariant
