-- Five counts in their order, each at most 8.
use mathlib.Core.Path.{refl, ap}
use native.Mathlib.Omega.{arith}
use Rattle.bits.specs.Place.{outcome, number_of, read_at}
use Rattle.bits.proofs.ReadLaws.{read_is, refused-is, left}
use Rattle.rule_lists.specs.RuleAt.{counts_at}
use Rattle.rule_lists.proofs.ListLaws.{counts-made}
use Rattle.rule_lists.proofs.rule.counts.Goals as goal

pub returns-in_err-years-clause-found : goal.returns-in_err-years-clause-found
unfolding counts_at number_of read_at
returns-in_err-years-clause-found c = left _ _ _ _ _ c.from_residual.ensures.1 (rw (refused-is _ _ c.in_err-years.ensures.is) refl)

pub returns-in_err-monthdays-clause-found : goal.returns-in_err-monthdays-clause-found
unfolding counts_at number_of read_at
returns-in_err-monthdays-clause-found c = left _ _ _ _ _ c.from_residual-in_err-monthdays.ensures.1 (rw (← read_is _ _ c.in_ok-years.ensures.is, refused-is _ _ c.in_err-monthdays.ensures.is) refl)

pub returns-in_err-weeks-clause-found : goal.returns-in_err-weeks-clause-found
unfolding counts_at number_of read_at
returns-in_err-weeks-clause-found c = left _ _ _ _ _ c.from_residual-in_err-weeks.ensures.1 (rw (← read_is _ _ c.in_ok-years.ensures.is, ← read_is _ _ c.in_ok-monthdays.ensures.is, refused-is _ _ c.in_err-weeks.ensures.is) refl)

pub returns-in_err-weekdays-clause-found : goal.returns-in_err-weekdays-clause-found
unfolding counts_at number_of read_at
returns-in_err-weekdays-clause-found c = left _ _ _ _ _ c.from_residual-in_err-weekdays.ensures.1 (rw (← read_is _ _ c.in_ok-years.ensures.is, ← read_is _ _ c.in_ok-monthdays.ensures.is, ← read_is _ _ c.in_ok-weeks.ensures.is, refused-is _ _ c.in_err-weekdays.ensures.is) refl)

pub returns-in_err-spans-clause-found : goal.returns-in_err-spans-clause-found
unfolding counts_at number_of read_at
returns-in_err-spans-clause-found c = left _ _ _ _ _ c.from_residual-in_err-spans.ensures.1 (rw (← read_is _ _ c.in_ok-years.ensures.is, ← read_is _ _ c.in_ok-monthdays.ensures.is, ← read_is _ _ c.in_ok-weeks.ensures.is, ← read_is _ _ c.in_ok-weekdays.ensures.is, refused-is _ _ c.in_err-spans.ensures.is) refl)

pub returns-clause-found : goal.returns-clause-found
returns-clause-found c =
    let y = c.in_ok-years.ensures in
    let m = c.in_ok-monthdays.ensures in
    let w = c.in_ok-weeks.ensures in
    let d = c.in_ok-weekdays.ensures in
    let t = c.in_ok-spans.ensures in
    record {
      is = ap outcome (counts-made _ _ _ _ _ _ _ (read_is _ _ y.is) (read_is _ _ m.is) (read_is _ _ w.is) (read_is _ _ d.is) (read_is _ _ t.is));
      near = omega (arith, y.near, m.near, w.near, d.near, t.near);
    }
