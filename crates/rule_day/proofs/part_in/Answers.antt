-- On a day that the rule matches, the kind and the cuts go into the build.
use borrow.Author.Rules.{rules}
use native.Mathlib.Omega.{arith}
use Rattle.rule_day.proofs.Bridges.{filter-ok}
use Rattle.rule_day.proofs.Making.{few-cuts, build-ready, part-on}
use Rattle.rule_day.proofs.part_in.Goals as goal

pub rule_matches-requires : goal.rule_matches-requires
rule_matches-requires c = (c.requires.day.asked, filter-ok c.args.rule.now c.requires.day.rule)

pub shared_ref_as_front-build_in : goal.shared_ref_as_front-build_in
shared_ref_as_front-build_in c = few-cuts _ _ _ _ _ c.cut_spans-cuts.ensures (search rules) c.requires.day.rule.span_count

pub build_in-count-requires : goal.build_in-count-requires
build_in-count-requires c =
    build-ready _ _ _ _ _ c.cut_spans-cuts.ensures (search rules) c.requires.day.rule.span_count _ _ c.kind_on-kind.ensures c.requires.day.rule.kind _ c.requires.room

pub returns : goal.returns
returns c =
    part-on _ _ _ _ _ c.cut_spans-cuts.ensures (search rules) c.requires.day.rule.span_count _ _ c.kind_on-kind.ensures _ c.rule_matches.ensures (search rules) _ _ c.build_in-count.ensures
    (omega (arith, c.requires.room))
