use Rattle.std.proofs.Common.{arith}
use Rattle.listing.proofs.Filling.{hole_ready, range_fits, holes_more, last_ready, filled}
use Rattle.listing.proofs.fill.Goals as goal

pub close-count-requires : goal.close-count-requires
close-count-requires c = hole_ready _ _ _ _ _ _ c.requires.0.few c.requires.1 c.loop-w.invariant c.loop-w-test.true _ c.start.ensures.0 c.start.ensures.1

pub bounds-room-count : goal.bounds-room-count
bounds-room-count c = omega (arith, range_fits _ _ _ _ _ _ c.requires.0.few c.requires.1 c.loop-w.invariant c.loop-w-test.true _ c.start.ensures.0 _ _ c.close-count.ensures)

pub loop-w-preserved : goal.loop-w-preserved
loop-w-preserved c =
    holes_more _ _ _ _ _ _ c.requires.0.few c.requires.1 c.loop-w.invariant c.loop-w-test.true _ c.start.ensures.0 _ _ c.close-count.ensures _ c.end-from.ensures.0

pub close-requires : goal.close-requires
close-requires c =
    let p = last_ready _ _ _ _ _ _ c.requires.0.few c.requires.1 c.loop-w.invariant c.loop-w-test.false in
    (omega (arith, p.0), (omega arith, (p.1.1.0, λ k. omega (arith, p.1.1.1))))

pub returns : goal.returns
returns c = filled _ _ _ _ _ _ c.requires.0.few c.requires.1 c.loop-w.invariant c.loop-w-test.false _ _ c.close.ensures
