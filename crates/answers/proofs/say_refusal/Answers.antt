-- One line, at most 40 bytes.
use borrow.Author.Rules.{rules}
use native.Mathlib.Omega.{arith}
use Rattle.answers.proofs.Made.{refusal-made}
use Rattle.answers.proofs.say_refusal.Goals as goal

pub returns : goal.returns
returns c = refusal-made _ _ _ _ _ (omega arith) (omega arith) (search rules)
