-- Counted items, as they are defined beside the rules.
unfoldable pub use Rattle.rule_lists.specs.Listed.{listed}
