-- The bytes that the field touches are all there, or it runs past the image.
use mathlib.Core.Path.{ap, sym, ◌∙◌}
use Rattle.std.specs.Prelude.{Some}
use Rattle.bits.proofs.BitsLaws.{past, value}
use native.Mathlib.Omega.{arith}
use Rattle.bits.proofs.last_field.Goals as goal

pub returns-then-at-width : goal.returns-then-at-width
returns-then-at-width c = sym (past _ _ _ (omega arith))

pub returns : goal.returns
returns c = ap Some c.last_bits.ensures ∙ sym (value _ _ _ (omega arith))
