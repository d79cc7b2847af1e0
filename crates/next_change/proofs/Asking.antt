-- What a question that may be asked holds.
use mathlib.Core.Path.{◌≡◌}
use mathlib.Core.Bool.{true, ◌&&◌, and-eq-true_iff}
use Prim.Native.Nat.{ℕ, ◌<◌}
use native.Mathlib.Omega.{arith}
use lib.Dec.{leb}
use borrow.Author.Tests.{leb-true}
use Rattle.calendar.specs.declared.Date.{Date}
use Rattle.dates.specs.Exists.{is_date}
use Rattle.dates.proofs.There.{DateThere, date-there}
use Rattle.next_change.specs.Answer.{can_ask}

pub record Asks (date : Date) (t : ℕ) : Type 0 where
  pub there : DateThere date
  pub minute : t < 1440

-- a test of three parts holds if each does
pub asks : (date : Date) (t days : ℕ) → can_ask date t days ≡ true → Asks date t
unfolding can_ask
asks date t days e =
    let p = (and-eq-true_iff (is_date date) (leb t 1439 && leb days 3660)).0 e in
    let q = (and-eq-true_iff (leb t 1439) (leb days 3660)).0 p.1 in
    let h = leb-true t 1439 q.0 in
    record { there = date-there date p.0; minute = omega arith }
