use mathlib.Core.Path.{◌∙◌}
use lib.ListN.{length-set}
use native.Mathlib.Omega.{arith}
use Rattle.rendering.proofs.Decimals.{last-digit, stored-all}
use Rattle.rendering.proofs.Writer.put_decimal.Goals as goal

pub loop-place-preserved : goal.loop-place-preserved
loop-place-preserved c =
    let l = c.loop-place in
    let v = l.invariant in
    (v.0, v.1, simp length-set (omega arith), omega arith, last-digit l.self.out.now l.self.at l.place l.rest (omega arith) ∙ v.4)

pub returns : goal.returns
returns c =
    let l = c.loop-place in
    let v = l.invariant in
    let w = c.width in
    let s = c.args.self.now in
    record { same = v.1; size = v.2; is = stored-all s.out.now l.self.out.now s.at l.place l.rest c.args.n w.result w.ensures.is (omega arith) (rw v.0 at v.4) }
