-- The code is read whole; one number stays, the others have no meaning.
use native.Mathlib.Omega.{arith}
use Rattle.bits.proofs.ReadLaws.{uncoded, no-code, left-number}
use Rattle.rule_image.proofs.ReadingLaws.{alone}
use Rattle.rule_image.proofs.sheet.reserved.Goals as goal

pub returns-in_err-code : goal.returns-in_err-code
returns-in_err-code c = left-number _ _ _ _ _ _ _ _ c.from_residual.ensures.1 (no-code _ 6 0 0 63 (omega arith) _ _ c.in_err-code.ensures)

pub returns-in_default : goal.returns-in_default
returns-in_default c = uncoded _ 6 0 0 63 (omega arith) _ _ c.in_ok-code.ensures (alone 0 c.in_ok-code.code.item (omega arith))
