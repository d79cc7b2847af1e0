-- The loop's invariant of `cut_spans`: the words of the spans passed, and zeros behind them.
use Rattle.std.proofs.Common.{◌≡◌}
use Rattle.time_filter.specs.Spans.{interval_of}
use Rattle.time_filter.specs.Cuts.{cut_of}
use Rattle.time_filter.proofs.Filling.{filled_to}
use Rattle.time_filter.proofs.cut_spans.Given as goal

abbrev pub invariant-loop-i : goal.invariant-loop-i
invariant-loop-i l = l.words ≡ filled_to (λ p. cut_of l.d (interval_of l.row l.day p)) l.span-items l.i
