-- The rule is as the date filter asks.
use Rattle.rule_day.proofs.Bridges.{filter-ok}
use Rattle.rule_day.proofs.kind_on.Goals as goal

pub rule_unknown-requires : goal.rule_unknown-requires
rule_unknown-requires c = (c.requires.asked, filter-ok c.args.rule.now c.requires.rule)
