-- The year that wins lies among the years that can be asked about.
use mathlib.Core.Path.{◌≡◌, ap, ◌∙◌}
use Prim.Native.Nat.{◌≤◌}
use native.Mathlib.Omega.{arith}
use Rattle.std.specs.Option.{unwrap_or}
use Rattle.date_bounds.specs.Bounds.{on_year, own_year, year_for, date_on}
use Rattle.date_bounds.proofs.OnYear.{own-ok, year-within}
use Rattle.date_bounds.proofs.date_on.Goals as goal
use Rattle.date_bounds.proofs.date_on.Goals.{After-unwrap_or-year}

here : (c : After-unwrap_or-year) → c.unwrap_or-year.result ≡ year_for (own_year c.args.date) c.args.year
unfolding year_for
here c = c.unwrap_or-year.ensures ∙ ap (λ o. unwrap_or o c.args.year) c.own_year.ensures

range : (c : After-unwrap_or-year) → (1800 ≤ c.unwrap_or-year.result) × (c.unwrap_or-year.result ≤ 10001)
range c =
    omega (arith, here c, year-within (own_year c.args.date) c.args.year (λ n. own-ok c.args.date n c.requires.0) c.requires.1 c.requires.2)

pub before_near-requires : goal.before_near-requires
before_near-requires c = omega (arith, range (goal.at.before_near-requires c).After-unwrap_or-year)

pub invariant_of-on : goal.invariant_of-on
invariant_of-on c =
    let r = range (goal.at.invariant_of-on c).After-unwrap_or-year in
    record { counted = c.before_near.ensures; low = omega (arith, r); high = omega (arith, r) }

pub returns : goal.returns
unfolding date_on
returns c =
    let a = c.args in
    c.on_year.ensures ∙ ap (on_year a.side a.date) (here (goal.at.returns c).After-unwrap_or-year)
