-- The days before the asked year are known from the day itself.
use mathlib.Core.Path.{◌≡◌, sym, ◌∙◌}
use native.Mathlib.Omega.{arith}
use Rattle.date_ranges.specs.Ranges.{given_year}
use Rattle.date_ranges.proofs.Laws.{ordinal-upto, its-year, its-before, in_reach, given_is, given-within, no-year, with-year}
use Rattle.date_ranges.proofs.dates_match.Goals as goal
use Rattle.date_ranges.proofs.dates_match.Goals.{After-or}

year : (c : After-or) → c.or.result ≡ given_year c.args.start c.args.end
year c =
    c.or.ensures ∙ given_is c.args.start c.args.end c.own_year.ensures c.own_year-2.ensures

pub overflow_sub-on : goal.overflow_sub-on
overflow_sub-on c =
    ordinal-upto c.args.d c.requires.2 c.requires.3 c.requires.4

pub invariant_of-on : goal.invariant_of-on
invariant_of-on c =
    let b = its-before c.args.d c.requires.2 c.requires.3 c.requires.4 in
    record { counted = b.is; low = b.low; high = b.high }

pub invariant_of-on-in-None : goal.invariant_of-on-in-None
invariant_of-on-in-None c =
    let b = its-before c.args.d c.requires.2 c.requires.3 c.requires.4 in
    record { counted = b.is; low = b.low; high = b.high }

pub undated-requires : goal.undated-requires
undated-requires c =
    let p = c.requires in
    let d = c.args.d in
    let y = its-year d p.2 p.3 p.4 in
    let r = in_reach d p.2 p.3 p.4 in
    (p.0, p.1, y.0, omega (arith, y.1), r.0, r.1, omega (arith, p.4))

pub returns-in-None : goal.returns-in-None
returns-in-None c =
    c.undated.ensures ∙ no-year c.args.start c.args.end c.args.d (sym (year (goal.at.returns-in-None c).After-or) ∙ c.in-None.is)

pub dated-requires : goal.dated-requires
dated-requires c =
    let p = c.requires in
    let g = given-within c.args.start c.args.end c.in-Some.year p.0 p.1 (sym (year (goal.at.dated-requires c).After-or) ∙ c.in-Some.is) in
    (p.0, p.1, g.0, g.1)

pub returns-in-Some : goal.returns-in-Some
returns-in-Some c =
    let a = c.args in
    c.dated.ensures ∙ with-year a.start a.end a.d c.in-Some.year (sym (year (goal.at.returns-in-Some c).After-or) ∙ c.in-Some.is)
