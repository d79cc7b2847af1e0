-- The code is read whole; each number has its operator, and 3 has no meaning.
use mathlib.Core.Path.{refl, ap}
use Prim.Native.Nat.{ℕ}
use Rattle.bits.specs.Place.{Place, Read, outcome}
use Rattle.rules.specs.declared.Operator.{Operator}
use Rattle.rule_items.specs.Codes.{operator_of, operator_at}
use Rattle.bits.proofs.ReadLaws.{tag-read, tag-refused, no-tag, left, found_refused}
use native.Mathlib.Omega.{arith}
use Rattle.rule_items.proofs.codes.operator_from.Goals as goal

-- what an operator's number gives
abbrev form : ℕ → Place → Read Operator
form n q = record { item = operator_of n; place = q }

pub returns-in_err-code : goal.returns-in_err-code
unfolding operator_at
returns-in_err-code c = left _ _ _ _ _ c.from_residual.ensures.1 (no-tag form _ 2 2 3 (omega arith) _ (λ n c b. refl) _ c.in_err-code.ensures)

pub returns-in-0 : goal.returns-in-0
unfolding operator_at
returns-in-0 c =
    record { is = ap outcome (tag-read form _ 2 2 3 (omega arith) _ _ c.in_ok-code.ensures 0 c.in-0.is (omega arith)); near = omega (arith, c.in_ok-code.ensures.near) }

pub returns-in-1 : goal.returns-in-1
unfolding operator_at
returns-in-1 c =
    record { is = ap outcome (tag-read form _ 2 2 3 (omega arith) _ _ c.in_ok-code.ensures 1 c.in-1.is (omega arith)); near = omega (arith, c.in_ok-code.ensures.near) }

pub returns-in-2 : goal.returns-in-2
unfolding operator_at
returns-in-2 c =
    record { is = ap outcome (tag-read form _ 2 2 3 (omega arith) _ _ c.in_ok-code.ensures 2 c.in-2.is (omega arith)); near = omega (arith, c.in_ok-code.ensures.near) }

pub returns-in_default : goal.returns-in_default
unfolding operator_at
returns-in_default c = found_refused _ _ _ _ (tag-refused form _ 2 2 3 (omega arith) _ (λ n c b. refl) _ c.in_ok-code.ensures (omega arith))
