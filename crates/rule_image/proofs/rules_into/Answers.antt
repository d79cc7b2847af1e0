-- A rule more, or the refusal that the list keeps.
use Rattle.std.proofs.Common.{refl, arith}
use Rattle.std.proofs.lemmas.Result.{err_from_is_err_and}
use Rattle.bits.proofs.ReadLaws.{read_is, refused-is}
use Rattle.rule_lists.specs.Listed.{listed}
use Rattle.rule_lists.proofs.ListLaws.{listed-step, listed-left, rule-stays}
use Rattle.rule_image.proofs.rules_into.Goals as goal

pub loop-rule-init : goal.loop-rule-init
unfolding listed
loop-rule-init c = record { is = refl; near = omega arith }

pub returns-in_err-reading : goal.returns-in_err-reading
returns-in_err-reading c =
    let p = err_from_is_err_and c.from_residual.result c.from_residual.ensures.1 in
    rw (p.1, p.2)
    (listed-left _ (rule-stays _ _) _ _ _ _ _ _ _ c.loop-rule.invariant.is (refused-is _ _ c.in_err-reading.ensures.is) _ (omega arith))

pub loop-rule-preserved : goal.loop-rule-preserved
loop-rule-preserved c =
    record {
      is = listed-step _ _ _ _ _ _ _ c.loop-rule.invariant.is (read_is _ _ c.in_ok-reading.ensures.is);
      near = omega (arith, c.in_ok-reading.ensures.near);
    }
