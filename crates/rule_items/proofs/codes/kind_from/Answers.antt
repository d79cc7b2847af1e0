-- The code is read whole; 0 to 2 stay, 3 has no meaning.
use Rattle.bits.proofs.ReadLaws.{uncoded, no-code, left-number, too-high}
use native.Mathlib.Omega.{arith}
use Rattle.rule_items.proofs.codes.kind_from.Goals as goal

pub returns-in_err-code : goal.returns-in_err-code
returns-in_err-code c = left-number _ _ _ _ _ _ _ _ c.from_residual.ensures.1 (no-code _ 2 0 2 3 (omega arith) _ _ c.in_err-code.ensures)

pub returns-in_default : goal.returns-in_default
returns-in_default c = uncoded _ 2 0 2 3 (omega arith) _ _ c.in_ok-code.ensures (too-high 0 2 c.in_ok-code.code.item (omega arith))
