-- Each form is laid on the year by its own function.
use Rattle.std.proofs.Common.{arith}
use Rattle.date_bounds.proofs.OnYear.{nth-again, on-fixed, on-weekday, on-easter}
use Rattle.date_bounds.proofs.on_year.Goals as goal

pub fixed_on-requires : goal.fixed_on-requires
fixed_on-requires c =
    let ok = rw c.in-Fixed.is at c.requires in
    (record { low = omega (arith, ok.ok.1.low); high = omega (arith, ok.ok.1.high) }, omega (arith, ok.ok.3))

pub nth_on-requires : goal.nth_on-requires
nth_on-requires c =
    let ok = rw c.in-Weekday.is at c.requires in (
      record { low = omega (arith, ok.ok.1.low); high = omega (arith, ok.ok.1.high) },
      omega (arith, ok.ok.2),
      nth-again c.in-Weekday.nth ok.ok.3,
    )

pub returns-in-Fixed : goal.returns-in-Fixed
returns-in-Fixed c =
    rw (c.fixed_on.ensures, c.from.ensures, c.from-in-Fixed.ensures) (on-fixed c.args.side c.args.date c.args.on.year c.in-Fixed.is)

pub returns-in-Weekday : goal.returns-in-Weekday
returns-in-Weekday c =
    let ok = rw c.in-Weekday.is at c.requires in
    rw (c.nth_on.ensures, c.from-in-Weekday.ensures, c.from-in-Weekday-2.ensures)
    (on-weekday c.args.side c.args.date c.args.on.year c.in-Weekday.is ok.ok.3)

pub returns-in-Easter : goal.returns-in-Easter
returns-in-Easter c = rw c.easter_on.ensures (on-easter c.args.side c.args.date c.args.on.year c.in-Easter.is)
