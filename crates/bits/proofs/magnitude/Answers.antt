-- The distance from 0 on each side of the half.
use Rattle.bits.proofs.SignLaws.{size-over, size-under}
use Rattle.bits.proofs.magnitude.Goals as goal

pub returns-then-v-full : goal.returns-then-v-full
returns-then-v-full c = size-over _ _ c.if-v-full.true

pub returns-else-v-full : goal.returns-else-v-full
returns-else-v-full c = size-under _ _ c.requires.0 c.if-v-full.false
