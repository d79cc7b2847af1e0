-- What the parts of an answer make together.
use mathlib.Core.Path.{◌≡◌, refl, ◌∙◌}
use mathlib.Core.Bool.{Bool, true, false, cond}
use mathlib.Core.List.{List}
use Prim.Native.Nat.{ℕ, ◌+◌, ◌≤◌, ◌<◌}
use native.Mathlib.Omega.{arith}
use lib.Dec.{leb}
use lib.ListN.{length, replicate}
use lib.Seq.{length-sets, sets-eq}
use borrow.Author.Tests.{leb-true}
use Rattle.calendar.specs.declared.Date.{Date}
use Rattle.time_filter.specs.declared.Events.{Events}
use Rattle.dates.specs.Exists.{is_date}
use Rattle.images.specs.Images.{Holidays}
use Rattle.ranges.specs.Range.{Range}
use Rattle.ranges.specs.Words.{ranges}
use Rattle.reading.specs.Ranging.{Ranged, over64, gives, day_r}
use Rattle.listing.specs.Listing.{listing}
use Rattle.listing.specs.Writing.{listed_in}
use Rattle.inputs.specs.Inputs.{inputs_of}
use Rattle.day_listing.specs.Listed.{day_listed, date_listed, answer_on}
use Rattle.std.specs.Prelude.{Some, None, Result, Ok, Err, IfOk}
use Rattle.refusals.specs.Numbers.{refused}
use Rattle.refusals.specs.declared.Cause.TheVariants.{NoDate}
use Rattle.refusals.specs.declared.Refusal.{Refusal}
use Rattle.rules.specs.declared.Sheet.{Sheet}
use Rattle.calendar.specs.Calendar.{day_number}
use Rattle.opening_hours.specs.Hours.{day_ranged}
use Rattle.framing.specs.Framing.{Parts}
use Rattle.framing.specs.Reading.{parts_of}
use Rattle.rendering.specs.Text.{lines_of, refusal_line, bad_input}
use Rattle.rendering.specs.Writing.{Wrote}
use Rattle.rendering.proofs.Lines.{lines-short, refusal-short}
use Rattle.answers.specs.Answers.{answer_text, day_text, text_of, Listed, Responds}

-- A listing that is longer than the room is refused.
listed-fits : (l : List Range) (cells : ℕ) → IfOk (listed_in l cells) (λ n. n ≤ cells)
listed-fits l cells = by (leb (length (listing l)) cells) refl
  where
    by : (b : Bool) → leb (length (listing l)) cells ≡ b → IfOk (listed_in l cells) (λ n. n ≤ cells)
    by true e = rw e (leb-true (length (listing l)) cells e)
    by false e = rw e tt

-- On a day that there is, an answer without a refusal is a listing.
day-fits : (b : Bool) (x : Ranged) (cells : ℕ) → IfOk (cond b (day_listed x cells) (refused NoDate 0)) (λ n. n ≤ cells)
day-fits false x cells = tt
day-fits true (over64 k) cells = tt
day-fits true (gives e) cells = listed-fits (day_r e) cells

any-fits : (x : Result Sheet Refusal) (row : Events) (h : Holidays) (date : Date) (cells : ℕ) → IfOk (date_listed x row h date cells) (λ n. n ≤ cells)
any-fits (Err f) row h date cells = tt
any-fits (Ok sheet) row h date cells = day-fits (is_date date) (day_ranged h row (day_number date) sheet) cells

few : (rules : List ℕ) (row : Events) (h : Holidays) (date : Date) (cells : ℕ) → IfOk (answer_on rules row h date cells) (λ n. n ≤ cells)
unfolding answer_on
few rules row h date cells = any-fits (inputs_of rules row h) row h date cells

-- No more entries than the room has.
pub listed-few : (p : Parts) (o o' : List ℕ) (r : Result ℕ Refusal) → Listed p o o' r → length o' ≡ length o → IfOk r (λ n. n ≤ length o')
listed-few p o o' r l e = rw (e, l.answer) (few _ _ _ _ (length o))

-- A text of at most 4,096 bytes that was written from the front on.
pub text-made : (o text o' : List ℕ) (r : ℕ) → length text ≤ 4096 → 4096 ≤ length o → Wrote o 0 text o' r → Responds o text o' r
text-made o text o' r h k w =
    let e : 0 + length text ≡ length text = omega arith in
    record {
      count = w.next ∙ omega arith;
      holds = w.holds ∙ (rw e at (sets-eq text o 0 (omega arith)));
      fits = rw (w.holds, length-sets o 0 text) (omega (arith, w.next));
    }

-- At most 129 lines of 24 bytes.
pub lines-made : (words o o' : List ℕ) (r : ℕ) → length words ≤ 129 → 4096 ≤ length o → Wrote o 0 (lines_of (ranges words)) o' r → Responds o (lines_of (ranges words)) o' r
lines-made words o o' r h l d = text-made o _ o' r (omega (arith, lines-short words)) l d

-- A refusal is one line, at most 40 bytes.
pub refusal-made : (n place : ℕ) (o o' : List ℕ) (r : ℕ) → n < 256 → 4096 ≤ length o → Wrote o 0 (refusal_line n place) o' r → Responds o (refusal_line n place) o' r
refusal-made n place o o' r h l d = text-made o _ o' r (omega (arith, refusal-short n place h)) l d

-- The room has 129 zeros before the listing.
day-made : (p : Parts) (cells o o' : List ℕ) (w : Result ℕ Refusal) (r : ℕ) → Listed p (replicate 129 0) cells w → Responds o (answer_text w cells) o' r → Responds o (day_text p) o' r
unfolding day_text
day-made p cells o o' w r l t = rw (l.answer, l.cells) at t

-- An input that has parts has the text of these.
pub asked-made : (s o o' cells : List ℕ) (p : Parts) (w : Result ℕ Refusal) (r : ℕ) → Some p ≡ parts_of s → Listed p (replicate 129 0) cells w → Responds o (answer_text w cells) o' r → Responds o (text_of s) o' r
unfolding text_of
asked-made s o o' cells p w r e l t = rw (← e) (day-made p cells o o' w r l t)

-- Any other input has the one line.
pub bad-made : (s o o' : List ℕ) (r : ℕ) → None ≡ parts_of s → Responds o bad_input o' r → Responds o (text_of s) o' r
unfolding text_of
bad-made s o o' r e t = rw (← e) t
