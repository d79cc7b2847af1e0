-- A window holds the field whole; near the end `last_field` has it.
use mathlib.Core.Path.{ap, sym, ◌∙◌}
use Rattle.std.specs.Prelude.{Some}
use Rattle.bits.proofs.BitsLaws.{from-window, value}
use native.Mathlib.Omega.{arith}
use Rattle.bits.proofs.read.Goals as goal

pub returns-then-first-image : goal.returns-then-first-image
returns-then-first-image c = ap Some (from-window _ _ _ _ _ c.requires.1 c.window.ensures c.cut.ensures) ∙ sym (value _ _ _ (omega arith))
