-- A day that can show something has its rules evaluated, with the day before it.
use borrow.Author.Rules.{rules}
use Rattle.rule_image.specs.Limits.{RuleOk}
use Rattle.rules.specs.Nothing.{no_rule}
use Rattle.rule_day.proofs.Bridges.{all-counted}
use Rattle.opening_hours.proofs.schedule_at.Goals as goal

pub evaluate-requires : goal.evaluate-requires
evaluate-requires c =
    record {
      days = record { sound = c.requires.sound; today = c.requires.day; yesterday = c.day_before.ensures; low = search rules; high = search rules };
      rules = all-counted RuleOk RuleOk no_rule (λ a p. p) _ _ c.requires.sheet.rules;
      room = c.requires.room;
    }
