-- The rule operators, whatever an evaluation is: `shut` is the test of one, and `lay p e` puts e over p.
use Rattle.std.specs.Prelude.{Bool, false, cond, not, ◌&&◌, ◌||◌, ℕ, eqb}
use Rattle.std.proofs.Math.Option.{Option, none, some}
use Rattle.rules.specs.declared.Operator.{Operator}
use Rattle.rules.specs.declared.Operator.TheVariants.{Normal, Additional, Fallback}

-- a match and an evaluation: of the rules so far, or of one rule, whose match is today's
pub record Turn (A : Type 0) : Type 0 where
  pub matched : Bool
  pub eval : Option A

-- before the first rule: no match, no evaluation
abbrev pub start : {A : Type 0} → Turn A
start = record { matched = false; eval = none }

-- an evaluation that is there if b holds
abbrev pub when : {A : Type 0} → Bool → A → Option A
when b a = cond b (some a) none

-- present and not shut
abbrev pub lasts : {A : Type 0} → (A → Bool) → Option A → Bool
lasts shut none = false
lasts shut (some a) = not (shut a)

-- e over p, where both are there
abbrev pub overlaid : {A : Type 0} → (A → A → A) → Option A → Option A → Option A
overlaid lay none e = e
overlaid lay (some p) none = some p
overlaid lay (some p) (some e) = some (lay p e)

module _ {A : Type 0} (shut : A → Bool) (lay : A → A → A) where
  -- normal, of kind open or unknown: matched if either is; the rule's evaluation if the rule matches today, else the previous if it lasts, else the rule's
  abbrev pub normal : Turn A → Turn A → Turn A
  normal p e = record { matched = p.matched || e.matched; eval = cond e.matched e.eval (cond (lasts shut p.eval) p.eval e.eval) }

  -- additional, or normal of kind closed: matched if either is; the rule's evaluation over the previous
  abbrev pub additional : Turn A → Turn A → Turn A
  additional p e = record { matched = p.matched || e.matched; eval = overlaid lay p.eval e.eval }

  -- fallback: all as before if matched and lasting, else all from the rule
  abbrev pub fallback : Turn A → Turn A → Turn A
  fallback p e = cond (p.matched && lasts shut p.eval) p e

  -- a rule's turn e after p; kind 1 is closed, and it is the rule's own kind that is asked
  abbrev pub turn : Operator → ℕ → Turn A → Turn A → Turn A
  turn Normal kind p e = cond (eqb kind 1) (additional p e) (normal p e)
  turn Additional kind p e = additional p e
  turn Fallback kind p e = fallback p e
