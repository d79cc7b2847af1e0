use Rattle.std.proofs.Common.{rules, tests, ◌∙◌}
use Rattle.std.proofs.lemmas.Iterator.{YieldsList-from_slice}
use Rattle.std.proofs.lemmas.Iterator.Search.{all_from_yields_List}
use Rattle.schedule.proofs.Building.{ends_all}
use Rattle.schedule.proofs.ends_fit.Goals as goal

pub returns : goal.returns
returns c = all_from_yields_List _ _ _ _ c.all.ensures.ran (YieldsList-from_slice c.args.given.now (cc)) (λ x b q k. search (rules, tests)) ∙ ends_all c.args.given.now
