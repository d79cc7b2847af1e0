-- The first that covers the minute, or none.
use Rattle.std.proofs.Common.{rules, tests}
use Rattle.std.proofs.lemmas.Iterator.{YieldsList-from_slice}
use Rattle.std.proofs.lemmas.Iterator.Search.{find_from_yields_List}
use Rattle.ranges.specs.States.{covers}
use Rattle.ranges.specs.Words.{range_of}
use Rattle.listing.proofs.Minutes.{shown_some, shown_none}
use Rattle.listing.proofs.state_at.Goals as goal

pub returns-in-Some : goal.returns-in-Some
returns-in-Some c =
    let xs = c.args.words.now in
    let e = find_from_yields_List (λ x. covers (range_of x) c.args.t) _ _ c.find.result c.find.ensures.ran (YieldsList-from_slice xs (cc)) (λ x b q k. search (rules, tests)) in
    shown_some c.args.t xs _ (rw c.in-Some.is at e)

pub returns-in-None : goal.returns-in-None
returns-in-None c =
    let xs = c.args.words.now in
    let e = find_from_yields_List (λ x. covers (range_of x) c.args.t) _ _ c.find.result c.find.ensures.ran (YieldsList-from_slice xs (cc)) (λ x b q k. search (rules, tests)) in
    shown_none c.args.t xs (rw c.in-None.is at e)
