-- A day of the shop, as it is evaluated: refused, or with words that show what it tells, as the two readings agree.
use mathlib.Core.Path.{◌≡◌, refl}
use mathlib.Core.Option.{Option}
use mathlib.Core.List.{List}
use Prim.Native.Nat.{ℕ, ◌≤◌, ◌<◌}
use native.Mathlib.Omega.{arith}
use lib.ListN.{length, take}
use Rattle.std.specs.Prelude.{Ok, Err}
use Rattle.refusals.specs.declared.Cause.TheVariants.{TooManyRanges}
use Rattle.refusals.specs.declared.Refusal.{Refusal}
use Rattle.rules.specs.declared.Sheet.{Sheet}
use Rattle.rule_image.specs.Limits.{SheetOk}
use Rattle.time_filter.specs.declared.Events.{Events}
use Rattle.date_filter.specs.Filter.{Holidays}
use Rattle.ranges.specs.Range.{Range}
use Rattle.ranges.specs.States.{Shown, state_at, lit}
use Rattle.reading.specs.Reading.{day_at}
use Rattle.reading.specs.Ranging.{Ranged, over64, gives, day_r}
use Rattle.opening_hours.specs.Hours.{rules_on, day_ranged}
use Rattle.opening_hours.specs.Rooms.{Answered}
use Rattle.opening_hours.proofs.Whole.{day-tells}
use Rattle.changes.specs.Search.{refuses, tells}
use Rattle.changes.specs.Words.{shown_in, Ordered}
use Rattle.next_change.specs.Shop.{told, shop_day}

-- what refuses a day of the two readings x and g
pub record Refuses (x : Ranged) (g : ℕ → Shown) (f : Refusal) : Type 0 where
  pub is : f ≡ record { cause = TooManyRanges; place = f.place }
  pub told : told x g ≡ refuses f.place

-- what n words give of it
pub record Gives (x : Ranged) (g : ℕ → Shown) (xs : List ℕ) (n : ℕ) : Type 0 where
  pub told : told x g ≡ tells g
  pub shows : (t : ℕ) → t < 1440 → shown_in (take n xs) t ≡ g t
  pub long : 192 ≤ length xs → n ≤ length xs
  pub order : Ordered (take n xs)

-- an answer is a refusal's, or an evaluation's, whose words agree with the minute reading
refuses_of : (x : Ranged) (g : ℕ → Shown) (xs : List ℕ) (f : Refusal) → Answered x xs (Err f) → Refuses x g f
refuses_of (over64 k) g xs f a = let e : f ≡ record { cause = TooManyRanges; place = k } = cc (a.answer) in rw e (record { is = refl; told = refl })
refuses_of (gives v) g xs f a = absurd (let q = a.answer in let z : ◌≡◌ {A = ℕ} 0 1 = cc in omega arith)

gives_of : (x : Ranged) (g : ℕ → Shown) (xs : List ℕ) (n : ℕ) → Answered x xs (Ok n) → ((v : Option (List Range)) → x ≡ gives v → (t : ℕ) → t < 1440 → lit (state_at (day_r v) t) ≡ g t) → Gives x g xs n
gives_of (over64 k) g xs n a h = absurd (let q = a.answer in let z : ◌≡◌ {A = ℕ} 0 1 = cc in omega arith)
gives_of (gives v) g xs n a h =
    let e : n ≡ length (day_r v) = cc (a.answer) in
    rw e (record { told = refl; shows = λ t u. rw a.list (h v refl t u); long = λ l. omega (arith, a.few); order = rw a.list a.order })

module _ (h : Holidays) (row : Events) (sheet : Sheet) (n : ℕ) (xs : List ℕ) where
  pub shop-refused : (f : Refusal) → Answered (day_ranged h row n sheet) xs (Err f) → Refuses (day_ranged h row n sheet) (day_at (rules_on h row n sheet)) f
  shop-refused f a = refuses_of (day_ranged h row n sheet) (day_at (rules_on h row n sheet)) xs f a

  pub shop-given : SheetOk sheet → (m : ℕ) → Answered (day_ranged h row n sheet) xs (Ok m) → Gives (day_ranged h row n sheet) (day_at (rules_on h row n sheet)) xs m
  shop-given b m a = gives_of (day_ranged h row n sheet) (day_at (rules_on h row n sheet)) xs m a (λ v p. (day-tells h row n sheet b v p).at)

  pub day-refused : (f : Refusal) → Refuses (day_ranged h row n sheet) (day_at (rules_on h row n sheet)) f → shop_day h row sheet n ≡ refuses f.place
  unfolding shop_day
  day-refused f r = r.told

  pub day-given : (m : ℕ) → Gives (day_ranged h row n sheet) (day_at (rules_on h row n sheet)) xs m → shop_day h row sheet n ≡ tells (day_at (rules_on h row n sheet))
  unfolding shop_day
  day-given m r = r.told
