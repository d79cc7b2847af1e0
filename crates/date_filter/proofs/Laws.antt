-- The forms of a weekday item, the shifted day that a holiday item looks up, and lists with a matching item.
-- Assumes nothing.
use mathlib.Core.Path.{◌≡◌, ap, ◌∙◌}
use mathlib.Core.Bool.{Bool, true, false, ◌||◌}
use Prim.Native.Nat.{ℕ, ◌≤◌}
use native.Mathlib.Omega.{arith}
use lib.IntN.{ℤ}
use mir.Syntax.{w16}
use mir.Val.{to_z, of_z}
use Rattle.calendar.specs.Moved.{moved_back}
use Rattle.calendar.proofs.Offsets.{moved_back-low, again}
use Rattle.days.specs.DayOf.{day_of}
use Rattle.days.specs.declared.Day.{Day}
use Rattle.rules.specs.declared.WeekdayItem.{WeekdayItem}
use Rattle.rules.specs.declared.WeekdayRange.TheVariants.{Fixed, Holiday}
use Rattle.holiday_image.specs.Image.{sound}
use Rattle.date_items.specs.Items.{shifted, weekday_matches}
use Rattle.date_items.proofs.Laws.{is-day, own-number}
use Rattle.date_filter.specs.Filter.{Holidays, certain_of, unknown_of, in_image, weekday_item_matches, item_unknown, Sound, WeekdayOk}
-- a list is searched as the lists of years and months are
pub use Rattle.date_lists.proofs.Loops.{some_any, none_listed, any_listed}

-- the image of each kind is sound
pub certain_sound : (h : Holidays) → Sound h → (b : Bool) → sound (certain_of h b) ≡ true
unfolding certain_of
certain_sound h s true = s.school
certain_sound h s false = s.public

pub unknown_sound : (h : Holidays) → Sound h → (b : Bool) → sound (unknown_of h b) ≡ true
unfolding unknown_of
unknown_sound h s true = s.school_unknown
unknown_sound h s false = s.public_unknown

pub never-unknown : (item : WeekdayItem) (d : Day) (h : Holidays) {s e f l : ℕ} {z : ℤ} → item.form ≡ Fixed s e f l z → false ≡ item_unknown h item.form d
unfolding item_unknown
never-unknown item d h e = rw e

module _ (item : WeekdayItem) (d : Day) (k : WeekdayOk item) where
  -- an offset comes back from its bits
  pub on-fixed : (h : Holidays) {s e f l : ℕ} {z : ℤ} → item.form ≡ Fixed s e f l z → weekday_matches s e f l (to_z w16 (of_z w16 z)) d ≡ weekday_item_matches h item.form d
  unfolding weekday_item_matches
  on-fixed h {z = z} e = rw (e, again z (rw e at k.form))

  module _ {b : Bool} {z : ℤ} (e : item.form ≡ Holiday b z) (s : Day) (q : s ≡ shifted d (to_z w16 (of_z w16 z))) where
    moved : s ≡ shifted d z
    moved = q ∙ ap (shifted d) (again z (rw e at k.form))

    -- the shifted day is a day
    pub shifted-day : 693961 ≤ d.number → (s ≡ day_of s.number) × (1 ≤ s.number)
    unfolding shifted
    shifted-day l =
        let b = rw e at k.form in
        (is-day s (moved_back d.number z) moved, omega (arith, own-number s (moved_back d.number z) moved, moved_back-low d.number z, b))

    pub on-holiday : (h : Holidays) → (in_image (certain_of h b) s || in_image (unknown_of h b) s) ≡ weekday_item_matches h item.form d
    unfolding weekday_item_matches
    on-holiday h = rw (e, moved)

    pub unknown-on : (h : Holidays) → in_image (unknown_of h b) s ≡ item_unknown h item.form d
    unfolding item_unknown
    unknown-on h = rw (e, moved)
