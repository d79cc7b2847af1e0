-- What the word holds is what is read there.
use mathlib.Core.Path.{sym}
use Rattle.rule_items.specs.Weekdays.{weekday_item_at}
use Rattle.rule_words.proofs.WordLaws.{weekday-found}
use Rattle.rule_lists.proofs.ListLaws.{at-front}
use Rattle.rule_lists.proofs.item.WeekdayItemItem.ahead.Goals as goal

pub returns : goal.returns
returns c = at-front _ _ _ 27 (weekday_item_at _) (λ w t h e p. (weekday-found _ _ w h e t (sym p.0), p.1)) _ c.front.ensures
