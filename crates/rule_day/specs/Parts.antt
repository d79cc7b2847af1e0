-- What a day's reading sees of a packed rule: its match, kind and cover on the day and on the day before.
use Rattle.std.specs.Prelude.{cond, List, ℕ, ◌-◌, take}
use Rattle.days.specs.declared.Day.{Day}
use Rattle.days.specs.DayOf.{day_of}
use Rattle.rules.specs.declared.Rule.{Rule}
use Rattle.rules.specs.declared.TimeSpan.{TimeSpan}
use Rattle.ranges.specs.Build.{spans}
use Rattle.time_filter.specs.declared.Events.{Events}
use Rattle.time_filter.specs.Spans.{covered}
use Rattle.time_filter.specs.Cuts.{cut_all}
use Rattle.date_filter.specs.Filter.{Holidays, rule_matches, rule_unknown}
use Rattle.reading.specs.Ruled.{Part, Ruled}
use Rattle.reading.specs.Ranging.{Spanned}

-- the rule's kind on a day: unknown (2) in the unknown image, else its own
abbrev pub kind_on : Holidays → Rule → Day → ℕ
kind_on h r d = cond (rule_unknown h r d) 2 r.kind

-- the spans that count
abbrev pub spans_of : Rule → List TimeSpan
spans_of r = take r.span_count r.spans

abbrev pub part_of : Holidays → Events → Rule → Day → Part
part_of h e r d = record { on = rule_matches h r d; kind = kind_on h r d; covers = λ t. covered e d (spans_of r) t }

-- the rule on day n, with what is left of the night before
abbrev pub ruled_on : Holidays → Events → ℕ → Rule → Ruled
ruled_on h e n r =
    record {
      operator = r.operator;
      kind = r.kind;
      comment = r.comment;
      today = part_of h e r (day_of n);
      night = part_of h e r (day_of (n - 1));
    }

-- the same with its spans cut to the day
abbrev pub spanned_on : Holidays → Events → ℕ → Rule → Spanned
spanned_on h e n r =
    record {
      rule = ruled_on h e n r;
      today = spans (cut_all e (day_of n) 0 (spans_of r));
      night = spans (cut_all e (day_of (n - 1)) 1440 (spans_of r));
    }
