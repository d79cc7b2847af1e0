-- What the word holds is what is read there.
use mathlib.Core.Path.{sym}
use Rattle.rule_items.specs.Years.{week_at}
use Rattle.rule_words.proofs.WordLaws.{week-found}
use Rattle.rule_lists.proofs.ListLaws.{at-front}
use Rattle.rule_lists.proofs.item.WeekItemItem.ahead.Goals as goal

pub returns : goal.returns
returns c = at-front _ _ _ 18 (week_at _) (λ w t h e p. (week-found _ _ w h e t (sym p.0), p.1)) _ c.front.ensures
