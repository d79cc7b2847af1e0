-- From the callees' contracts to this crate's, over plain variables.
use mathlib.Core.Path.{◌≡◌, sym, subst, ap, ◌∙◌}
use mathlib.Core.Bool.{Bool, true}
use mathlib.Core.List.{List}
use Prim.Native.Nat.{ℕ, ◌-◌, ◌≤◌, ◌<◌}
use native.Mathlib.Omega.{arith}
use lib.ListN.{length, take, replicate, length-map, length-append, length-take, length-replicate}
use Rattle.std.specs.Prelude.{Some}
use Rattle.days.specs.declared.Day.{Day}
use Rattle.rules.specs.declared.Rule.{Rule}
use Rattle.ranges.specs.States.{InOrder}
use Rattle.ranges.specs.Build.{spans, build_r}
use Rattle.ranges.specs.Words.{ranges}
use Rattle.ranges.proofs.Builds.{in-build}
use Rattle.schedule.specs.Rooms.{Leaves, BuildReady}
use Rattle.time_filter.specs.declared.Events.{Events}
use Rattle.time_filter.specs.declared.Cuts.{Cuts}
use Rattle.time_filter.specs.Spans.{interval_of}
use Rattle.time_filter.specs.Cuts.{cut_of, cut_all, cuts_of}
use Rattle.time_filter.proofs.Covers.{cuts-words}
use Rattle.date_items.proofs.Laws.{is-day, own-number}
use Rattle.date_filter.specs.Filter.{Holidays, rule_matches, rule_unknown}
use Rattle.operators.specs.Rooms.{Holds}
use Rattle.rule_day.specs.Parts.{kind_on, spans_of}
use Rattle.rule_day.specs.Ready.{shown_on, part_on, DayReady, RuleReady}
use Rattle.rule_day.proofs.Agreeing.{cuts-end, by_kind}

-- the ranges of a day stand in order, since no cut ends past 24:00
shown-order : (h : Holidays) (e : Events) (d : Day) (shift : ℕ) (r : Rule) → InOrder 0 (shown_on h e d shift r) 1440
shown-order h e d shift r = in-build (kind_on h r d) r.comment (spans (cut_all e d shift (spans_of r))) (cuts-end e d shift (spans_of r))

module _ (e : Events) (d : Day) (shift : ℕ) (r : Rule) (u : Cuts) (p : u ≡ cuts_of e d shift r) (long : length u.words ≡ 8) (few : r.span_count ≤ 8) where
  cut-count : u.count ≡ r.span_count
  unfolding cuts_of
  cut-count = ap (λ (z : Cuts). z.count) p

  pub few-cuts : u.count ≤ 8
  few-cuts = omega (arith, cut-count)

  -- 8 words, of which those behind the count fill what the counted spans leave: as many spans as are counted
  cut-spans : r.span_count ≤ length r.spans
  unfolding cuts_of
  cut-spans =
      omega (
        arith,
        ap (λ (z : Cuts). length z.words) p,
        length-append (cut_all e d shift (spans_of r)) (replicate (8 - r.span_count) 0),
        length-replicate {A = ℕ} (8 - r.span_count) 0,
        length-map (spans_of r) (λ s. cut_of shift (interval_of e d s)),
        length-take r.span_count r.spans,
      )

  -- the counted words are the cuts
  cut-words : take u.count u.words ≡ cut_all e d shift (spans_of r)
  unfolding cuts_of
  cut-words = subst (λ (z : Cuts). take z.count z.words ≡ cut_all e d shift (spans_of r)) (sym p) (cuts-words e d shift r cut-spans)

  module _ (h : Holidays) (k : ℕ) (q : k ≡ kind_on h r d) where
    -- at most 8 cuts, of kinds 0 to 2, none past 24:00
    pub build-ready : r.kind ≤ 2 → (xs : List ℕ) → 8 < length xs → BuildReady (take u.count u.words) k xs
    build-ready i xs j = record {
      room = omega (arith, cut-count, length-take u.count u.words);
      kinds = rw q (by_kind (λ z. z ≤ 2) r.kind (omega arith) i (rule_unknown h r d));
      ends = rw cut-words (cuts-end e d shift (spans_of r));
    }

    -- a rule that matches the day holds their build
    pub part-on : (b : Bool) → b ≡ rule_matches h r d → b ≡ true → (ys : List ℕ) (n : ℕ)
        → Leaves (build_r k r.comment (spans (take u.count u.words))) ys (length (take u.count u.words)) n → 8 ≤ length ys → Holds (part_on h e d shift r) ys 8 (record { matched = true; evaluation = Some n })
    part-on b m t ys n l i =
        let w : ranges (take n ys) ≡ shown_on h e d shift r = l.list ∙ rw (cut-words, q) in
        rw (← m, t) (record { is = rw w; ready = record { few = omega (arith, cut-count, length-take u.count u.words, l.few); long = omega (arith, cut-count, length-take u.count u.words, l.few, i); order = rw w (shown-order h e d shift r) } })

-- the day before the asked one
module _ (h : Holidays) (r : Rule) (d y : Day) (xs : List ℕ) (k : RuleReady h r d y xs) where
  pub night-ready : DayReady h r y
  night-ready =
      let e : y.number ≡ d.number - 1 = own-number y (d.number - 1) k.yesterday in
      record {
        asked = record {
          sound = k.sound;
          day = is-day y (d.number - 1) k.yesterday;
          low = omega (arith, e, k.low);
          high = omega (arith, e, k.high);
        };
        rule = k.rule;
      }
