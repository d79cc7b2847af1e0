-- Small codes: a number that has no meaning is refused for that at its first bit.
use Rattle.std.specs.Prelude.{ℕ, zero, suc, List}
use Rattle.refusals.specs.declared.Cause.TheVariants.{NoMeaning}
use Rattle.bits.specs.Place.{Place, Read, number_at}
use Rattle.rules.specs.declared.Operator.{Operator}
use Rattle.rules.specs.declared.Operator.TheVariants.{Normal, Additional, Fallback}

abbrev pub operator_of : ℕ → Operator
operator_of zero = Normal
operator_of (suc zero) = Additional
operator_of (suc (suc n)) = Fallback

-- operator 2 (0 normal, 1 additional, 2 fallback)
unfoldable pub operator_at : List ℕ → Place → Read Operator
operator_at s p =
    let c : Read ℕ = number_at s p 2 0 2 NoMeaning in
    record { item = operator_of c.item; place = c.place }

-- kind 2 (0 open, 1 closed, 2 unknown)
abbrev pub kind_at : List ℕ → Place → Read ℕ
kind_at s p = number_at s p 2 0 2 NoMeaning

-- weekday 3 (0 Monday to 6)
abbrev pub weekday_at : List ℕ → Place → Read ℕ
weekday_at s p = number_at s p 3 0 6 NoMeaning
