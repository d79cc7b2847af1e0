-- The room holds the build of the last spans.
use Rattle.std.specs.Slice.Iter.{iter_rest}
use Rattle.std.specs.Iterator.Adapters.{rev_source}
use Rattle.schedule.proofs.Building.{Building}
use Rattle.schedule.proofs.build_in.Given as goal

abbrev pub invariant-loop-w : goal.invariant-loop-w
invariant-loop-w l = Building l.given l.kind l.comment l.initial.room l.room l.count (iter_rest (rev_source l.w-iterator))
