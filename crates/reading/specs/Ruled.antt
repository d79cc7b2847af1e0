-- What a day's reading asks of a rule.
use Rattle.std.specs.Prelude.{Bool, ℕ}
use Rattle.rules.specs.declared.Operator.{Operator}

-- a rule on one day: whether it matches the day, the kind that it has on it, and the minutes of that day's clock that its spans cover, from 1440 on those of the next day
pub record Part : Type 0 where
  pub on : Bool
  pub kind : ℕ
  pub covers : ℕ → Bool

-- a rule on a day, with what is left of the night before; `kind` is the rule's own, whatever it becomes on a day
pub record Ruled : Type 0 where
  pub operator : Operator
  pub kind : ℕ
  pub comment : ℕ
  pub today : Part
  pub night : Part
