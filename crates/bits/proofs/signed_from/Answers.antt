-- By the field's cases and the test of its distance from 0.
use mathlib.Core.Path.{sym, ◌∙◌}
use Rattle.bits.proofs.ReadLaws.{signed-past, signed-far, signed-near, full-lt, full-small}
use Rattle.bits.proofs.signed_from.Goals as goal

pub returns-in_default : goal.returns-in_default
returns-in_default c = signed-past _ _ _ _ _ c.requires.3 (sym c.read.ensures ∙ c.in_default.is)

pub magnitude-requires : goal.magnitude-requires
magnitude-requires c =
    let h = c.requires in
    (full-lt _ _ _ 0 _ h.3 _ (sym c.read.ensures ∙ c.in-Some.is), full-small c.args.image.now 0 _ 0 _ h.3 h.1)

pub returns-then-magnitude-limit : goal.returns-then-magnitude-limit
returns-then-magnitude-limit c =
    signed-far _ _ _ _ _ c.requires.3 _ _
    (sym c.read.ensures ∙ c.in-Some.is) c.magnitude.ensures c.if-magnitude-limit.true

pub extend-requires : goal.extend-requires
extend-requires c =
    let h = c.requires in
    (full-lt _ _ _ 0 _ h.3 _ (sym c.read.ensures ∙ c.in-Some.is), full-small c.args.image.now 0 _ 0 _ h.3 h.1)

pub returns : goal.returns
returns c =
    signed-near _ _ _ _ _ c.requires.3 _ _ _
    (sym c.read.ensures ∙ c.in-Some.is)
    c.magnitude.ensures c.if-magnitude-limit.false c.extend.ensures c.extend.type_inv
