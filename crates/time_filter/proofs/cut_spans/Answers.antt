use Rattle.std.proofs.Common.{◌≡◌, ◌∙◌, ℕ, List, ap, arith, rules, length, take, set}
use Rattle.std.proofs.lemmas.List.{length-take-le}
use Rattle.time_filter.specs.Cuts.{cut_of, cuts_of}
use Rattle.time_filter.specs.declared.Cuts.{Cuts}
use Rattle.time_filter.proofs.Filling.{fill_on, fill_done, length-mapped}
use Rattle.time_filter.proofs.cut_spans.Goals as goal
use Rattle.time_filter.proofs.cut_spans.Goals.{Start}

counted : (c : Start) → length (take c.args.rule.span_count c.args.rule.spans) ≡ c.args.rule.span_count
counted c =
    let e : length c.args.rule.spans ≡ 8 = search (rules, length-mapped) in
    let h = c.requires in
    length-take-le c.args.rule.span_count c.args.rule.spans (omega arith)

pub loop-i-preserved : goal.loop-i-preserved
loop-i-preserved c =
    let n = counted (goal.at.loop-i-preserved c).Start in
    ap (λ (l : List ℕ). set l c.loop-i.i c.cut.result) c.loop-i.invariant
    ∙ fill_on _ _ _ _ _ c.loop-i-test.true (omega arith) (c.cut.ensures ∙ ap (cut_of _) c.as_naive.ensures)

abbrev made : ℕ → List ℕ → Cuts
made n w = record { count = n; words = w }

pub returns : goal.returns
unfolding cuts_of
returns c =
    let n = counted (goal.at.returns c).Start in
    ap (made _) (c.loop-i.invariant ∙ fill_done _ _ _ _ n c.loop-i-test.false c.loop-i.auto.i-end)
