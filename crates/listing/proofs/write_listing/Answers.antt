-- A valid schedule can be listed.
use Rattle.std.proofs.Common.{◌≡◌, true, rules, arith}
use Rattle.schedule.specs.Schedules.{valid}
use Rattle.schedule.proofs.Answers.{valid-in, counted}
use Rattle.listing.proofs.write_listing.Goals as goal

pub write_in-requires : goal.write_in-requires
write_in-requires c =
    let v : valid c.args.s ≡ true = search rules in
    let g = valid-in c.args.s v in
    record { few = omega (arith, g.0, counted c.args.s v (search rules)); order = g.1 }
