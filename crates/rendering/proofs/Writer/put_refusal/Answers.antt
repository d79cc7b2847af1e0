-- The words and the two numbers, each behind the one before.
use native.Mathlib.Omega.{arith}
use Rattle.rendering.specs.Text.{ended, decimal, refused_text, place_text, refusal_line}
use Rattle.rendering.proofs.Stores.{behind}
use Rattle.rendering.proofs.Lines.{comment-short, number_short}
use Rattle.rendering.proofs.Writer.put_refusal.Goals as goal

pub put_decimal-requires : goal.put_decimal-requires
put_decimal-requires c = omega (arith, comment-short c.from.result (omega arith))

pub put-requires-2 : goal.put-requires-2
put-requires-2 c = omega (arith, comment-short c.from.result (omega arith))

pub put_last-requires : goal.put_last-requires
put_last-requires c =
    let g = c.args in
    omega (arith, comment-short c.from.result (omega arith), number_short g.place)

pub returns : goal.returns
unfolding refusal_line
returns c =
    let g = c.args in
    behind refused_text _ c.put.ensures
    (behind (decimal g.number) _ (rw c.from.ensures at c.put_decimal.ensures)
    (behind place_text (ended (decimal g.place)) c.put-2.ensures c.put_last.ensures))
