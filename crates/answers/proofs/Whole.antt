-- A day that isn't refused has all its entries written: 129 cells hold every listing of 64 ranges.
use mathlib.Core.Path.{◌≡◌}
use mathlib.Core.Bool.{true}
use mathlib.Core.List.{List, map}
use mathlib.Core.Option.{Option}
use Prim.Native.Nat.{ℕ, ◌≤◌}
use lib.Dec.{leb}
use lib.ListN.{length, take, drop, replicate, length-map}
use lib.Seq.{take_at}
use borrow.Author.Tests.{le-leb}
use Rattle.calendar.specs.Calendar.{day_number}
use Rattle.ranges.specs.Range.{Range}
use Rattle.ranges.specs.Words.{ranges, word_of}
use Rattle.reading.specs.Ranging.{gives, day_r}
use Rattle.listing.specs.Listing.{listing}
use Rattle.listing.specs.Writing.{listed_in, cells_of, written}
use Rattle.listing.proofs.Tiling.{few-listing}
use Rattle.opening_hours.proofs.Few.{day-few}
use Rattle.std.specs.Prelude.{Ok}
use Rattle.rules.specs.declared.Sheet.{Sheet}
use Rattle.opening_hours.specs.Hours.{day_ranged}
use Rattle.dates.specs.Exists.{is_date}
use Rattle.inputs.specs.Inputs.{inputs_of}
use Rattle.day_listing.specs.Listed.{answer_on, cells_on}
use Rattle.framing.specs.Framing.{Parts}
use Rattle.rendering.specs.Text.{lines_of}
use Rattle.answers.specs.Answers.{answer_text, day_text, events_of, holidays_of, asked_date}

-- A listing of at most 129 entries stands in a room of 129, and its words are read from the front.
all-written : (l : List Range) → length l ≤ 64 → answer_text (listed_in l 129) (cells_of l (replicate 129 0)) ≡ lines_of (ranges (map word_of (listing l)))
all-written l h =
    let o : List ℕ = replicate 129 0 in
    let n : length (listing l) ≤ 129 = few-listing l h in
    let g : leb (length (listing l)) 129 ≡ true = le-leb (length (listing l)) 129 n in
    let t : take (length (listing l)) (written (listing l) o) ≡ map word_of (listing l) = take_at (map word_of (listing l)) (drop (length (listing l)) o) (length (listing l)) (length-map (listing l) word_of) in
    rw (g, t)

-- THE LINES OF A DAY: where the inputs are accepted, the date exists and no addition is refused, they are those of its whole listing.
pub whole-listing : (p : Parts) (sheet : Sheet) (e : Option (List Range)) → inputs_of p.rules (events_of p) (holidays_of p) ≡ Ok sheet → is_date (asked_date p) ≡ true → day_ranged (holidays_of p) (events_of p) (day_number (asked_date p)) sheet ≡ gives e → day_text p ≡ lines_of (ranges (map word_of (listing (day_r e))))
unfolding day_text answer_on cells_on
whole-listing p sheet e a d r =
    let f = day-few (holidays_of p) (events_of p) (day_number (asked_date p)) sheet e r in
    rw (a, d, r) (all-written (day_r e) f)
