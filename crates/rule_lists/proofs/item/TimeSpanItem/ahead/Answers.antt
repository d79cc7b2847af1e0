-- Two times, the second behind the first.
use mathlib.Core.Path.{ap, sym}
use native.Mathlib.Omega.{arith}
use Rattle.bits.specs.Place.{outcome}
use Rattle.rule_words.proofs.WordLaws.{span-found}
use Rattle.rule_lists.proofs.item.TimeSpanItem.ahead.Goals as goal

pub returns : goal.returns
returns c =
    let w = c.in_ok-word.ensures in
    let v = c.in_ok-word-2.ensures in
    let a = c.in_ok-start.ensures in
    let b = c.in_ok-end.ensures in
    record { is = ap outcome (span-found _ _ _ w.0 w.1 _ _ _ (sym a.taken) v.0 v.1 (sym b.taken)); near = omega (arith, a.narrow, b.narrow) }
