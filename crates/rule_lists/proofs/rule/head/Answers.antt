-- Operator, kind and comment in their order.
use mathlib.Core.Path.{refl, ap}
use native.Mathlib.Omega.{arith}
use Rattle.bits.specs.Place.{outcome, number_of, read_at}
use Rattle.bits.proofs.ReadLaws.{read_is, refused-is, left}
use Rattle.rule_lists.specs.RuleAt.{head_at}
use Rattle.rule_lists.proofs.ListLaws.{head-made}
use Rattle.rule_lists.proofs.rule.head.Goals as goal

pub returns-in_err-operator : goal.returns-in_err-operator
unfolding head_at number_of read_at
returns-in_err-operator c = left _ _ _ _ _ c.from_residual.ensures.1 (rw (refused-is _ _ c.in_err-operator.ensures.is) refl)

pub returns-in_err-kind : goal.returns-in_err-kind
unfolding head_at number_of read_at
returns-in_err-kind c = left _ _ _ _ _ c.from_residual-in_err-kind.ensures.1 (rw (← read_is _ _ c.in_ok-operator.ensures.is, refused-is _ _ c.in_err-kind.ensures.is) refl)

pub returns-in_err-comment : goal.returns-in_err-comment
unfolding head_at
returns-in_err-comment c =
    left _ _ _ _ _ c.from_residual-in_err-comment.ensures.1
    (rw (← read_is _ _ c.in_ok-operator.ensures.is, ← read_is _ _ c.in_ok-kind.ensures.is) (refused-is _ _ c.in_err-comment.ensures.is))

pub returns : goal.returns
returns c =
    let o = c.in_ok-operator.ensures in
    let k = c.in_ok-kind.ensures in
    let t = c.in_ok-comment.ensures in
    record { is = ap outcome (head-made _ _ _ _ _ (read_is _ _ o.is) (read_is _ _ k.is) (read_is _ _ t.is)); near = omega (arith, o.near, k.near, t.near) }
