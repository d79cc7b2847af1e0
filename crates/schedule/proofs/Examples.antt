-- 64 ranges are accepted and 65 refused; 8 is judged on the finished result, not on a step on the way. By computing.
use Rattle.std.specs.Prelude.{is_ok, true}
use mathlib.Core.Path.{◌≡◌, refl}
use Rattle.refusals.specs.Numbers.{refused}
use Rattle.refusals.specs.declared.Cause.TheVariants.{TooManyRanges}
use mathlib.Core.List.{List, [], ◌∷◌}
use Prim.Native.Nat.{ℕ, zero, suc, ◌+◌}
use lib.ListN.{length}
use Rattle.ranges.specs.Range.{Range}
use Rattle.ranges.specs.Insertion.{add_r}
use Rattle.ranges.proofs.Examples.{range}
use Rattle.schedule.specs.Schedules.{within}

-- n open ranges of one minute, each two minutes after the last
abbrev pub islands : ℕ → ℕ → List Range
islands lo zero = []
islands lo (suc n) = range lo (lo + 1) 0 0 ∷ islands (lo + 2) n

pub sixty-four : is_ok (within (add_r (islands 0 63) (range 1000 1001 0 0 ∷ []))) ≡ true
sixty-four = refl

pub sixty-five : within (add_r (islands 0 64) (range 1000 1001 0 0 ∷ [])) ≡ refused TooManyRanges 0
sixty-five = refl

-- the last range goes in first and makes 65; then the first joins two of them
pub on-the-way : length (add_r (islands 0 64) (range 1000 1001 0 0 ∷ [])) ≡ 65
on-the-way = refl

pub in-the-end : is_ok (within (add_r (islands 0 64) (range 0 3 0 0 ∷ range 1000 1001 0 0 ∷ []))) ≡ true
in-the-end = refl
