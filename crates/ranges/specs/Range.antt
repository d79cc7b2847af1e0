-- A range of minutes in one state, and what two ranges have to do with each other.
use Rattle.std.specs.Prelude.{Bool, false, cond, ℕ, eqb}

-- start ≤ t < end; kind 0 open, 1 closed, 2 unknown; comment 0 is the empty one
pub record Range : Type 0 where
  pub start : ℕ
  pub end : ℕ
  pub kind : ℕ
  pub comment : ℕ

abbrev pub both : Bool → Bool → Bool
both a b = cond a b false

-- the same state: kind and comment
abbrev pub same : Range → Range → Bool
same a b = both (eqb a.kind b.kind) (eqb a.comment b.comment)

-- a ends where b begins, in the same state
abbrev pub touch : Range → Range → Bool
touch a b = both (eqb a.end b.start) (same a b)

-- from a's start to b's end
abbrev pub hull : Range → Range → Range
hull a b = record { start = a.start; end = b.end; kind = a.kind; comment = a.comment }

-- the state of r between two minutes
abbrev pub between : ℕ → ℕ → Range → Range
between s e r = record { start = s; end = e; kind = r.kind; comment = r.comment }
