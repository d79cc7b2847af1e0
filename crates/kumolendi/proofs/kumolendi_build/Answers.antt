-- What the build answers fits.
use lib.ListN.{length}
use Rattle.kumolendi.proofs.SizeLaws.{build-small}
use Rattle.kumolendi.proofs.kumolendi_build.Goals as goal

pub pack-requires : goal.pack-requires
pack-requires c = rw c.build.ensures.answer (build-small c.args.given.now c.args.kind c.args.comment (length c.args.out.now))
