-- The room holds the first list with the last ranges of the second over it.
use Rattle.std.specs.Slice.Iter.{iter_rest}
use Rattle.std.specs.Iterator.Adapters.{rev_source}
use Rattle.schedule.proofs.Adding.{Adding}
use Rattle.schedule.proofs.add_in.Given as goal

abbrev pub invariant-loop-w : goal.invariant-loop-w
invariant-loop-w l = Adding l.initial.room l.n l.b l.room l.count (iter_rest (rev_source l.w-iterator))
