-- What the listing answers fits.
use lib.ListN.{length}
use Rattle.word_schedules.specs.Stored.{offered}
use Rattle.kumolendi.proofs.SizeLaws.{listed_small}
use Rattle.kumolendi.proofs.kumolendi_listing.Goals as goal

pub pack-requires : goal.pack-requires
pack-requires c = rw c.write_listing.ensures.answer (listed_small (offered c.args.words.now) (length c.args.out.now))
