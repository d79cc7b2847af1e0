-- The list that an insertion makes, and an addition.
use Rattle.std.specs.Prelude.{cond, ℕ, min, max, ltb}
use mathlib.Core.List.{List, [], ◌∷◌, reverse, reverse_aux}
use Rattle.ranges.specs.Range.{Range, touch, hull}

-- the part of r before minute s, and from minute e on
abbrev pub end_at : ℕ → Range → Range
end_at s r = record { start = r.start; end = min r.end s; kind = r.kind; comment = r.comment }

abbrev pub start_at : ℕ → Range → Range
start_at e r = record { start = max r.start e; end = r.end; kind = r.kind; comment = r.comment }

-- r in front of l, unless r is empty
abbrev pub ahead : Range → List Range → List Range
ahead r l = cond (ltb r.start r.end) (r ∷ l) l

-- the ranges as far as they lie before minute s, and from minute e on
abbrev pub before_l : ℕ → List Range → List Range
before_l s [] = []
before_l s (r ∷ l) = ahead (end_at s r) (before_l s l)

abbrev pub after_l : ℕ → List Range → List Range
after_l e [] = []
after_l e (r ∷ l) = ahead (start_at e r) (after_l e l)

-- x in front of l, joined with the ranges at l's front that touch it
abbrev pub join_r : Range → List Range → List Range
join_r x [] = x ∷ []
join_r x (a ∷ l) = cond (touch x a) (join_r (hull x a) l) (x ∷ a ∷ l)

-- the ranges rv, last first, then x, joined with those that touch it, then l
abbrev pub join_l : List Range → Range → List Range → List Range
join_l [] x l = x ∷ l
join_l (r ∷ rv) x l = cond (touch r x) (join_l rv (hull r x) l) (reverse_aux (r ∷ rv) (x ∷ l))

abbrev pub join_lr : List Range → List Range → List Range
join_lr rv [] = reverse rv
join_lr rv (x ∷ l) = join_l rv x l

-- the old ranges are cut outside x, which is then joined with what touches it on each side
abbrev pub insert_r : Range → List Range → List Range
insert_r x l = join_lr (reverse (before_l x.start l)) (join_r x (after_l x.end l))

-- the ranges b over the ranges a: b's go in from last to first
abbrev pub add_r : List Range → List Range → List Range
add_r a [] = a
add_r a (r ∷ b) = insert_r r (add_r a b)
