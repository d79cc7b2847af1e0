-- The day's year is among the image's or the answer is false; the day's bit lies within the image.
use Rattle.std.proofs.Common.{arith}
use Rattle.holiday_image.proofs.Laws.{enough, sum_said, has-in-years, in-formed, contains-in, contains-out}
use Rattle.holiday_image.proofs.contains.Goals as goal

pub of-years-requires : goal.of-years-requires
of-years-requires c = λ h. enough _ c.requires.0 h

pub has-requires : goal.has-requires
has-requires c = sum_said _ _ c.of-years.ensures c.requires.0

pub returns-then-not-has : goal.returns-then-not-has
returns-then-not-has c = contains-out _ _ _ _ c.of-years.ensures c.has.ensures c.if-not-has.true

pub month_bit-requires : goal.month_bit-requires
month_bit-requires c =
    let p = c.requires in
    let i = has-in-years _ _ _ _ _ c.of-years.ensures c.has.ensures c.if-not-has.false p.1 p.2 in
    let f = in-formed _ _ _ p.0 i in
    (omega arith, omega arith, omega arith, omega arith)

pub bits_at-requires : goal.bits_at-requires
bits_at-requires c =
    let p = c.requires in
    let i = has-in-years _ _ _ _ _ c.of-years.ensures c.has.ensures c.if-not-has.false p.1 p.2 in
    let f = in-formed _ _ _ p.0 i in
    (omega arith, omega arith, omega (arith, c.month_bit.ensures), omega (arith, c.month_bit.ensures))

pub returns : goal.returns
returns c = contains-in _ _ _ _ _ _ c.of-years.ensures c.has.ensures c.if-not-has.false c.month_bit.ensures c.bits_at.ensures
