-- `check_events` meets its contract: the lowest bad event is the one that the definition finds.
use Rattle.std.proofs.Common.{◌∙◌, sym, ap, not}
use Rattle.std.proofs.lemmas.Iterator.Adapters.{position_from-zero}
use Rattle.time_filter.specs.Refusal.{event_time}
use Rattle.time_filter.specs.Spans.{times}
use Rattle.time_filter.proofs.Judging.{refusal_at, lowest}
use Rattle.time_filter.proofs.check_events.Goals as goal

pub returns-in-Some : goal.returns-in-Some
returns-in-Some c =
    ap refusal_at (sym c.in-Some.is ∙ c.lowest_bad.ensures ∙ position_from-zero (λ t. not (event_time t)) (times c.args.row)) ∙ lowest 0 (times c.args.row)

pub returns-in-None : goal.returns-in-None
returns-in-None c =
    ap refusal_at (sym c.in-None.is ∙ c.lowest_bad.ensures ∙ position_from-zero (λ t. not (event_time t)) (times c.args.row)) ∙ lowest 0 (times c.args.row)
