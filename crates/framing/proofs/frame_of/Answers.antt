-- An input is framed exactly when it ends where its parts do.
use mathlib.Core.Path.{sym}
use Rattle.framing.proofs.Places.{places-within, is_framed, not_framed}
use Rattle.framing.proofs.frame_of.Goals as goal

pub returns-then-not-is_whole-clause-is : goal.returns-then-not-is_whole-clause-is
returns-then-not-is_whole-clause-is c = not_framed _ _ (sym c.places_of-f.ensures.is) (cc)

pub returns : goal.returns
returns c =
    let e = sym c.places_of-f.ensures.is in
    record { is = is_framed _ _ e (cc); within = places-within _ _ e (cc) }
