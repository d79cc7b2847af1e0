-- Below the half the value is itself, from the half on it is the value less 2 to the width.
use mathlib.Core.Path.{◌∙◌, sym}
use mir.Syntax.{w16}
use mir.Facts.{to_z_pos}
use Rattle.bits.proofs.SignLaws.{over, less-fits, less-fits16, less-signed}
use native.Mathlib.Omega.{arith}
use Rattle.bits.proofs.extend.Goals as goal

pub overflow_sub-result : goal.overflow_sub-result
overflow_sub-result c = less-fits _ _ c.requires.0 c.requires.1 c.if-v-full.false

pub overflow_cast-result-else-v-full-3 : goal.overflow_cast-result-else-v-full-3
overflow_cast-result-else-v-full-3 c = less-fits16 _ _ c.requires.0 c.requires.1 c.if-v-full.false

pub returns-then-v-full : goal.returns-then-v-full
returns-then-v-full c = to_z_pos w16 (omega arith) ∙ sym (over _ _ c.if-v-full.true)

pub returns-else-v-full : goal.returns-else-v-full
returns-else-v-full c = less-signed _ _ c.requires.0 c.requires.1 c.if-v-full.false
