-- The two times, the kind and the comment, each behind the one before.
use Prim.Native.Nat.{◌/◌, ◌%◌}
use native.Mathlib.Omega.{arith}
use Rattle.ranges.specs.Words.{range_of}
use Rattle.rendering.specs.Text.{spaced, ended, time_text, kind_text, decimal, line_of}
use Rattle.rendering.proofs.Stores.{behind}
use Rattle.rendering.proofs.Lines.{kind-length, comment-short}
use Rattle.rendering.proofs.Writer.put_line.Goals as goal

pub put_last-requires : goal.put_last-requires
put_last-requires c =
    let w = c.args.word in
    omega (arith, kind-length (w / 256 % 4), comment-short c.from.result (omega arith))

pub returns : goal.returns
unfolding line_of range_of
returns c =
    let w = c.args.word in
    behind (spaced (time_text (w / 2097152))) _ c.put_time.ensures
    (behind (spaced (time_text (w / 1024 % 2048))) _ c.put_time-2.ensures
    (behind (spaced (kind_text (w / 256 % 4))) (ended (decimal (w % 256))) c.put_kind.ensures (rw c.from.ensures at c.put_last.ensures)))
