-- An empty list asks for nothing, another for an item that matches.
use mathlib.Core.Path.{◌∙◌}
use borrow.Author.Rules.{rules}
use Rattle.std.proofs.lemmas.Iterator.{YieldsList-from_slice}
use Rattle.std.proofs.lemmas.Iterator.Search.{any_from_yields_List}
use Rattle.date_filter.specs.Filter.{weekday_item_matches, weekdays_match}
use Rattle.date_filter.proofs.Laws.{none_listed, any_listed}
use Rattle.date_filter.proofs.weekdays_match.Goals as goal

pub returns-then-is_empty : goal.returns-then-is_empty
unfolding weekdays_match
returns-then-is_empty c = none_listed _ c.args.items.now c.is_empty.result c.if-is_empty.true c.is_empty.ensures

pub returns-else-is_empty : goal.returns-else-is_empty
unfolding weekdays_match
returns-else-is_empty c =
    any_from_yields_List (λ x. weekday_item_matches c.args.h.now x.form c.args.d) _ _ _ c.any.ensures.ran (YieldsList-from_slice c.args.items.now cc) (λ x b q k. search rules)
    ∙ any_listed _ c.args.items.now _ c.if-is_empty.false c.is_empty.ensures
