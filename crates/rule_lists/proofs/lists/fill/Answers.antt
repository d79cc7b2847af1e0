-- An item more, or the refusal that the list keeps.
use Rattle.std.proofs.Common.{refl, arith}
use Rattle.std.proofs.lemmas.Result.{err_from_is_err_and}
use Rattle.bits.proofs.ReadLaws.{read_is, refused-is}
use Rattle.rule_lists.specs.Listed.{listed}
use Rattle.rule_lists.proofs.ListLaws.{listed-step, listed-left}
use Rattle.rule_lists.proofs.lists.fill.Goals as goal

pub loop-item-init : goal.loop-item-init
unfolding listed
loop-item-init g c = record { is = refl; near = omega arith }

pub returns-in_err-reading : goal.returns-in_err-reading
returns-in_err-reading g c =
    let p = err_from_is_err_and c.from_residual.result c.from_residual.ensures.1 in
    rw (p.1, p.2)
    (listed-left _ (g.met.T.Item.stays _ _) _ _ _ _ _ _ _ c.loop-item.invariant.is (refused-is _ _ c.in_err-reading.ensures.is) _ (omega arith))

pub loop-item-preserved : goal.loop-item-preserved
loop-item-preserved g c =
    record {
      is = listed-step _ _ _ _ _ _ _ c.loop-item.invariant.is (read_is _ _ c.in_ok-reading.ensures.is);
      near = omega (arith, c.in_ok-reading.ensures.near);
    }
