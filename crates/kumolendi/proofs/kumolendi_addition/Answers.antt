-- What the addition answers fits.
use lib.ListN.{length}
use Rattle.word_schedules.specs.Stored.{offered}
use Rattle.kumolendi.proofs.SizeLaws.{sum-small}
use Rattle.kumolendi.proofs.kumolendi_addition.Goals as goal

pub pack-requires : goal.pack-requires
pack-requires c = rw c.addition.ensures.answer (sum-small (offered c.args.a.now) (offered c.args.b.now) (length c.args.out.now))
