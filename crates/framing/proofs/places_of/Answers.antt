-- Each place is the one behind the part before it, as in the definition.
use mathlib.Core.Path.{sym}
use native.Mathlib.Omega.{arith}
use Rattle.framing.proofs.Places.{places_made}
use Rattle.framing.proofs.places_of.Goals as goal

pub returns : goal.returns
returns c =
    record {
      is = sym (places_made _ _ _ _ _ _ c.behind_sized-events.ensures.is c.behind_sized-public_unknown.ensures.is c.behind_sized-school.ensures.is c.behind_sized-school_unknown.ensures.is c.behind_sized-date.ensures.is);
      near = omega (arith, c.behind_sized-events.ensures.near, c.behind_sized-public_unknown.ensures.near, c.behind_sized-school.ensures.near, c.behind_sized-school_unknown.ensures.near, c.behind_sized-date.ensures.near);
    }
