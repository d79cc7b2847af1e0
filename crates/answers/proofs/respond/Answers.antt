-- The parts decide between the listing and the one line; the listing stands in a room of 129 zeros.
use borrow.Author.Rules.{rules}
use Rattle.answers.proofs.Made.{listed-few, asked-made, bad-made}
use Rattle.answers.proofs.respond.Goals as goal

pub say-requires : goal.say-requires
say-requires c = (search rules, search rules, listed-few _ _ _ _ c.listed-answer.ensures (search rules))

pub returns-in_default : goal.returns-in_default
returns-in_default c = bad-made _ _ _ _ (search rules) c.say_bad_input.ensures

pub returns : goal.returns
returns c = asked-made _ _ _ _ _ _ _ (search rules) c.listed-answer.ensures c.say.ensures
