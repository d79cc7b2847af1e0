-- Eight bytes, each below 256, make the number of their 64 bits.
use mathlib.Core.Path.{◌∙◌}
use native.Mathlib.Omega.{arith}
use Rattle.bits.proofs.BitsLaws.{eight_is}
use Rattle.bits.proofs.window.Goals as goal

pub returns : goal.returns
returns c = c.from_be_bytes.ensures ∙ eight_is c.args.image.now c.args.first (λ j. omega (arith, c.type_inv.image j))
