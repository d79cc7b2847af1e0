-- The inputs and the date are accepted.
use Rattle.day_listing.proofs.ListLaws.{ready, listed}
use Rattle.day_listing.proofs.list_day.Goals as goal

pub list_ranges-requires : goal.list_ranges-requires
list_ranges-requires c = ready _ _ _ _ _ c.in_ok-sheet.ensures _ c.in_ok-day.ensures

pub returns : goal.returns
returns c = listed _ _ _ _ _ c.in_ok-sheet.ensures _ c.in_ok-day.ensures _ _ _ c.list_ranges.ensures
