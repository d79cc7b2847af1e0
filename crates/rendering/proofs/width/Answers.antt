use native.Mathlib.Omega.{arith}
use Rattle.rendering.proofs.Decimals.{counted-begin, counted-more, counted-all}
use Rattle.rendering.proofs.width.Goals as goal

pub loop-rest-init : goal.loop-rest-init
loop-rest-init c = counted-begin _ (omega arith)

pub loop-rest-preserved : goal.loop-rest-preserved
loop-rest-preserved c = let l = c.loop-rest in counted-more _ l.k l.rest (omega arith) l.invariant

pub returns : goal.returns
returns c =
    let l = c.loop-rest in
    let e = counted-all _ l.k l.rest (omega arith) l.invariant in
    record { is = e; few = omega (arith, l.invariant.turns) }
