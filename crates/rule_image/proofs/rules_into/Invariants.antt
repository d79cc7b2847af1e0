-- The loop's invariant: what was set so far is the list of so many rules, and the next begins at its end.
use Rattle.std.proofs.Common.{◌≡◌, ◌+◌, ◌*◌, ◌≤◌}
use Rattle.bits.specs.Place.{At}
use Rattle.rule_lists.specs.Listed.{listed}
use Rattle.rule_lists.specs.RuleAt.{rule_at}
use Rattle.rule_image.proofs.rules_into.Given as goal

abbrev pub invariant-loop-rule : goal.invariant-loop-rule
invariant-loop-rule l =
    record {
      is : record { item = l.rule-items; place = At l.end } ≡ listed (rule_at l.image l.edition) l.fn.room (At l.fn.at) l.rule-index;
      near : l.end ≤ l.fn.at + 1592 * l.rule-index;
    }
