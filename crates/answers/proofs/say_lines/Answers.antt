-- At most 129 lines of 24 bytes.
use borrow.Author.Rules.{rules}
use native.Mathlib.Omega.{arith}
use Rattle.answers.proofs.Made.{lines-made}
use Rattle.answers.proofs.say_lines.Goals as goal

pub returns : goal.returns
returns c = lines-made _ _ _ _ (omega arith) (omega arith) (search rules)
