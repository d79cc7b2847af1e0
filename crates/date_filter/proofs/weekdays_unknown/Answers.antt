-- The search of a list.
use borrow.Author.Rules.{rules}
use Rattle.std.proofs.lemmas.Iterator.{YieldsList-from_slice}
use Rattle.std.proofs.lemmas.Iterator.Search.{any_from_yields_List}
use Rattle.date_filter.specs.Filter.{item_unknown, weekdays_unknown}
use Rattle.date_filter.proofs.Laws.{some_any}
use Rattle.date_filter.proofs.weekdays_unknown.Goals as goal

pub returns : goal.returns
unfolding weekdays_unknown
returns c =
    rw some_any
    (any_from_yields_List (λ x. item_unknown c.args.h.now x.form c.args.d) _ _ _ c.any.ensures.ran (YieldsList-from_slice c.args.items.now cc) (λ x b q k. search rules))
