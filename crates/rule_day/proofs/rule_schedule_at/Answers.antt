-- Last night's day is the one before.
use borrow.Author.Rules.{rules}
use Rattle.rule_day.proofs.Making.{night-ready}
use Rattle.rule_day.proofs.rule_schedule_at.Goals as goal

pub part_in-night-requires : goal.part_in-night-requires
part_in-night-requires c =
    record { day = night-ready c.args.h.now c.args.rule.now c.args.today c.args.yesterday c.args.room.now c.requires; room = search rules }
