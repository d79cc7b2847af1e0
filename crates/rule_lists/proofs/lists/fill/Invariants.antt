-- The loop's invariant: what was set so far is the list of so many items, and the next begins at its end.
use Rattle.std.proofs.Common.{◌≡◌, ◌+◌, ◌*◌, ◌≤◌}
use Rattle.bits.specs.Place.{At}
use Rattle.rule_lists.specs.Listed.{listed}
use Rattle.rule_lists.proofs.lists.fill.Given as goal

abbrev pub invariant-loop-item : goal.invariant-loop-item
invariant-loop-item g l =
    record {
      is : record { item = l.item-items; place = At l.end } ≡ listed (g.T.Item.item_at l.image l.edition) l.fn.room (At l.fn.at) l.item-index;
      near : l.end ≤ l.fn.at + g.T.Item.most * l.item-index;
    }
