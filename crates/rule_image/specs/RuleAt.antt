-- A rule, as it is defined beside its lists.
unfoldable pub use Rattle.rule_lists.specs.RuleAt.{head_at, counts_at, rule_at}
pub use Rattle.rule_lists.specs.RuleAt.{count_at, years_at, monthdays_at, weeks_at, weekdays_at, spans_at}
