-- The inputs' refusal comes first, then that of the question, then what the search finds.
use mathlib.Core.Path.{◌≡◌, sym, ◌∙◌}
use mathlib.Core.Bool.{true}
use borrow.Author.Rules.{rules}
use Rattle.std.proofs.lemmas.Result.{err_from_is_err_and}
use Rattle.inputs.proofs.Meaning.{sheet-ok, images-sound}
use Rattle.next_change.specs.Answer.{can_ask}
use Rattle.next_change.proofs.Starting.{date-fits, minute-fits, start-ready, start_is, inputs-refused, asked-answered}
use Rattle.next_change.proofs.next_change.Goals as goal

pub returns-in_err-sheet : goal.returns-in_err-sheet
returns-in_err-sheet c =
    let p = err_from_is_err_and c.from_residual.result c.from_residual.ensures.1 in
    rw (p.1, p.2) (inputs-refused _ _ _ _ _ _ _ c.in_err-sheet.ensures)

pub day_on-day-requires : goal.day_on-day-requires
day_on-day-requires c = let a : can_ask c.args.date c.args.minute c.args.days ≡ true = sym c.can_ask.ensures ∙ search rules in date-fits _ _ _ a

pub change_within-requires : goal.change_within-requires
change_within-requires c =
    let a : can_ask c.args.date c.args.minute c.args.days ≡ true = sym c.can_ask.ensures ∙ search rules in
    let e = sym c.in_ok-sheet.ensures in
    (start-ready _ _ _ a _ c.day_on-day.ensures _ c.days_within.ensures _ _ (images-sound _ _ _ _ e) (sheet-ok _ _ _ _ e), minute-fits _ _ _ a)

pub returns : goal.returns
returns c =
    let a : can_ask c.args.date c.args.minute c.args.days ≡ true = sym c.can_ask.ensures ∙ search rules in
    c.change_within.ensures ∙ start_is _ _ _ a _ c.day_on-day.ensures _ c.days_within.ensures _ ∙ asked-answered _ _ _ _ _ _ _ c.in_ok-sheet.ensures a
