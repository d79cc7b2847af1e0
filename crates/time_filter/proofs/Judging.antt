-- Event times: the lowest that is bad, and that an answer's number and place settle it.
-- Assumes nothing.
use Rattle.std.proofs.Common.{◌≡◌, ℕ, ◌+◌, List, [], ◌∷◌, Bool, true, false, not, cond, Result, Ok, Err, Option, Some, None, refl, sym, ap, ◌∙◌, arith, eqb}
use Rattle.std.specs.List.{position_from}
use Rattle.refusals.specs.declared.Cause.{Cause}
use Rattle.refusals.specs.declared.Cause.TheVariants.{PastEnd, NoMeaning, PastLimits, NotEnded, BadHolidays, BadEvent, NoDate, TooManyRanges, NoRoom, BadSchedule}
use Rattle.refusals.specs.declared.Refusal.{Refusal}
use Rattle.refusals.specs.Numbers.{number, refused}
use Rattle.time_filter.specs.Refusal.{event_time, lowest_bad}

-- the answer to the lowest bad event, or to none
abbrev pub refusal_at : Option ℕ → Result (Unit {0}) Refusal
refusal_at (Some e) = refused BadEvent e
refusal_at None = Ok tt

pub lowest : (e : ℕ) (l : List ℕ) → refusal_at (position_from (λ t. not (event_time t)) e l) ≡ lowest_bad e l
unfolding lowest_bad
lowest e [] = refl
lowest e (n ∷ l) = go (event_time n) (lowest (e + 1) l)
  where
    go : (q : Bool) → refusal_at (position_from (λ t. not (event_time t)) (e + 1) l) ≡ lowest_bad (e + 1) l →
        refusal_at (cond (not q) (Some e) (position_from (λ t. not (event_time t)) (e + 1) l)) ≡ cond q (lowest_bad (e + 1) l) (refused BadEvent e)
    go true h = h
    go false h = refl

-- a cause from its number
cause_of : ℕ → Cause
cause_of n =
    cond (eqb n 1) PastEnd
    (cond (eqb n 2) NoMeaning (cond (eqb n 3) PastLimits (cond (eqb n 4) NotEnded (cond (eqb n 5) BadHolidays (cond (eqb n 6) BadEvent (cond (eqb n 7) NoDate (cond (eqb n 8) TooManyRanges (cond (eqb n 9) NoRoom (BadSchedule)))))))))

back : (c : Cause) → cause_of (number c) ≡ c
unfolding cause_of
back PastEnd = refl
back NoMeaning = refl
back PastLimits = refl
back NotEnded = refl
back BadHolidays = refl
back BadEvent = refl
back NoDate = refl
back TooManyRanges = refl
back NoRoom = refl
back BadSchedule = refl

-- an answer's number and place; number 0 is no refusal
abbrev pub number_of : Result (Unit {0}) Refusal → ℕ
number_of (Ok u) = 0
number_of (Err r) = number r.cause

abbrev pub place_of : Result (Unit {0}) Refusal → ℕ
place_of (Ok u) = 0
place_of (Err r) = r.place

some-number : (c : Cause) → number c ≡ 0 → ⊥
some-number PastEnd e = omega (arith, e)
some-number NoMeaning e = omega (arith, e)
some-number PastLimits e = omega (arith, e)
some-number NotEnded e = omega (arith, e)
some-number BadHolidays e = omega (arith, e)
some-number BadEvent e = omega (arith, e)
some-number NoDate e = omega (arith, e)
some-number TooManyRanges e = omega (arith, e)
some-number NoRoom e = omega (arith, e)
some-number BadSchedule e = omega (arith, e)

-- an answer is settled by its number and place
pub settles : (a b : Result (Unit {0}) Refusal) → number_of a ≡ number_of b → place_of a ≡ place_of b → a ≡ b
settles (Ok u) (Ok v) e f = refl
settles (Ok u) (Err r) e f = absurd (some-number r.cause (sym e))
settles (Err r) (Ok u) e f = absurd (some-number r.cause e)
settles (Err r) (Err s) e f =
    let same : r.cause ≡ s.cause = sym (back r.cause) ∙ ap cause_of e ∙ back s.cause in
    ap Err (ap (λ (c : Cause). record { cause = c; place = r.place }) same ∙ ap (λ (p : ℕ). record { cause = s.cause; place = p }) f)
