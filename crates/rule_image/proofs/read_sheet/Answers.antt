-- The header, the rules and the end in their order.
use Rattle.rule_image.proofs.ReadingLaws.{refused-head, refused-rules, refused-end, accepted, rules-set, rules-left}
use Rattle.rule_image.proofs.read_sheet.Goals as goal

pub returns-in_err-head : goal.returns-in_err-head
returns-in_err-head c = refused-head _ _ _ c.from_residual.ensures.1 c.in_err-head.ensures.found.is

pub returns-in_err-behind : goal.returns-in_err-behind
returns-in_err-behind c =
    let h = c.in_ok-head.ensures in
    refused-rules _ _ _ _ c.from_residual-in_err-behind.ensures.1 h.found.is
    (rules-left _ _ _ c.no_rule-rules.ensures _ _ h.count_bound _ _ c.in_err-behind.ensures)

pub returns-in_err-end : goal.returns-in_err-end
returns-in_err-end c =
    let h = c.in_ok-head.ensures in
    refused-end _ _ _ _ _ _ c.from_residual-in_err-end.ensures.1 h.found.is
    (rules-set _ _ _ c.no_rule-rules.ensures _ _ h.count_bound _ _ c.in_ok-behind.ensures.0) c.in_err-end.ensures

pub returns : goal.returns
returns c =
    let h = c.in_ok-head.ensures in
    accepted _ _ _ _ _ h.found.is (rules-set _ _ _ c.no_rule-rules.ensures _ _ h.count_bound _ _ c.in_ok-behind.ensures.0) c.in_ok-end.ensures
