-- A turn stops in the hole before its range, stops in the range, or passes both.
use mathlib.Core.Logic.{inl, inr}
use Rattle.std.proofs.Common.{rules, arith, sym, ◌∙◌}
use Rattle.changes.proofs.Walking.{walk-begin, hole-stop, range-stop, walk-on, walk_end, walk-end-none, walk-end-stop}
use Rattle.changes.proofs.first_other.Goals as goal
use Rattle.changes.proofs.first_other.Goals.{else-t-start-via-then-t-start+else-not-shut, else-t-start-via-else-t-start, else-inside-end-via-then-inside-end+else-not-alike, else-inside-end-via-else-inside-end}

pub loop-w-init : goal.loop-w-init
loop-w-init c = walk-begin _ _ _ _ c.requires.0 c.requires.1 c.alike-shut.ensures

pub returns-then-not-shut : goal.returns-then-not-shut
returns-then-not-shut c = hole-stop _ _ _ _ _ _ c.loop-w.invariant c.loop-w-test.true (omega (arith, c.start-start.ensures.0)) (search rules)

pub returns-then-not-alike : goal.returns-then-not-alike
returns-then-not-alike c =
    range-stop _ _ _ _ _ _ c.loop-w.invariant c.loop-w-test.true _ (omega (arith, c.start-start.ensures.0, c.max-inside.ensures))
    (λ k. elim c.else-t-start.branch [ else-t-start-via-then-t-start+else-not-shut w ↦ w.if-not-shut.false | else-t-start-via-else-t-start w ↦ absurd (omega (arith, c.start-start.ensures.0)) ])
    (omega (arith, c.end-end.ensures.0))
    (sym c.alike.ensures ∙ c.if-not-alike.true)

pub loop-w-preserved : goal.loop-w-preserved
loop-w-preserved c =
    walk-on _ _ _ _ _ _ c.loop-w.invariant c.loop-w-test.true c.max-inside.result (omega (arith, c.start-start.ensures.0, c.max-inside.ensures))
    (λ k. elim c.else-t-start.branch [ else-t-start-via-then-t-start+else-not-shut w ↦ w.if-not-shut.false | else-t-start-via-else-t-start w ↦ absurd (omega (arith, c.start-start.ensures.0)) ])
    _ (omega (arith, c.end-end.ensures.0, c.max-t.ensures))
    (λ k. elim c.else-inside-end.branch [ else-inside-end-via-then-inside-end+else-not-alike w ↦ sym w.alike.ensures ∙ w.if-not-alike.false | else-inside-end-via-else-inside-end w ↦ absurd (omega (arith, c.end-end.ensures.0)) ])

pub returns-then-t-eq1440 : goal.returns-then-t-eq1440
returns-then-t-eq1440 c =
    elim c.if-t-eq1440.either [ inl a ↦ walk_end _ _ _ _ _ _ c.loop-w.invariant c.loop-w-test.false a | inr b ↦ walk-end-none _ _ _ _ _ _ c.loop-w.invariant c.loop-w-test.false b.1 ]

pub returns-else-t-eq1440 : goal.returns-else-t-eq1440
returns-else-t-eq1440 c = walk-end-stop _ _ _ _ _ _ c.loop-w.invariant c.loop-w-test.false (search rules) (search rules)
