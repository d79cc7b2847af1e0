-- The date found fits, and a refusal's place.
use Rattle.kumolendi.proofs.SizeLaws.{first_small, first-refused}
use Rattle.kumolendi.proofs.kumolendi_first_holiday_after.Goals as goal

pub date_number-requires : goal.date_number-requires
date_number-requires c = first_small c.args.image.now (record { year = c.args.year; month = c.args.month; day = c.args.day }) c.in-Ok-Some.first (rw c.in-Ok-Some.field-0-is at c.in-Ok-Some.ensures)

pub pack-requires-in-Err : goal.pack-requires-in-Err
pack-requires-in-Err c = first-refused c.args.image.now (record { year = c.args.year; month = c.args.month; day = c.args.day }) c.in-Err.refused c.in-Err.ensures
