-- After i turns the lines of the first i words stand there, 24 bytes each at most.
use Rattle.rendering.proofs.Lines.{Lined}
use Rattle.rendering.proofs.Writer.put_lines.Given as goal

abbrev pub invariant-loop-word : goal.invariant-loop-word
invariant-loop-word l = Lined l.fn.self l.words l.word-index l.self
