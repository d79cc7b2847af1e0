-- Words that are a schedule can be listed.
use Rattle.std.proofs.Common.{rules}
use Rattle.word_schedules.proofs.StoreLaws.{list_ready}
use Rattle.word_schedules.proofs.write_listing.Goals as goal

pub write_in-requires : goal.write_in-requires
write_in-requires c = list_ready _ (search rules)
