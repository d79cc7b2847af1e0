-- Refusal 6: an event time that is neither a minute of the day nor none.
use Rattle.std.specs.Prelude.{Bool, cond, ◌||◌, List, [], ◌∷◌, ℕ, ◌+◌, leb, eqb, Result, Ok}
use Rattle.refusals.specs.declared.Cause.TheVariants.{BadEvent}
use Rattle.refusals.specs.declared.Refusal.{Refusal}
use Rattle.refusals.specs.Numbers.{refused}
use Rattle.time_filter.specs.declared.Events.{Events}
use Rattle.time_filter.specs.Spans.{times}

-- 0 to 1439, or 65535 (none)
unfoldable pub event_time : ℕ → Bool
event_time n = leb n 1439 || eqb n 65535

-- the lowest event from e on whose time is neither
unfoldable pub lowest_bad : ℕ → List ℕ → Result (Unit {0}) Refusal
lowest_bad e [] = Ok tt
lowest_bad e (n ∷ l) = cond (event_time n) (lowest_bad (e + 1) l) (refused BadEvent e)

abbrev pub event_refusal : Events → Result (Unit {0}) Refusal
event_refusal r = lowest_bad 0 (times r)
