-- Where an input is framed, its places stand in order and within it, so that each part can be lent.
use mathlib.Core.Path.{◌≡◌}
use mathlib.Core.Bool.{Bool, true, false, ◌&&◌}
use mathlib.Core.List.{List}
use Prim.Native.Nat.{ℕ, ◌+◌}
use native.Mathlib.Omega.{arith}
use lib.Dec.{leb}
use lib.ListN.{length}
use borrow.Author.Tests.{eqb-true, leb-true}
use Rattle.std.specs.Prelude.{Some, None}
use Rattle.framing.specs.declared.Frame.{Frame}
use Rattle.framing.specs.Reading.{places_of, frame_of, behind, whole, Within}

both_left : (a b : Bool) → a && b ≡ true → a ≡ true
both_left true b e = cc
both_left false b e = e

both_right : (a b : Bool) → a && b ≡ true → b ≡ true
both_right true b e = e
both_right false b e = cc

-- Each place is at least two behind the one before, the last six before the end.
pub within : (s : List ℕ) → whole (length s) ((places_of s).date + 6) ≡ true → Within (places_of s) (length s)
unfolding places_of behind
within s e =
    record {
      rules = omega arith;
      events = omega arith;
      public = omega arith;
      public_unknown = omega arith;
      school = omega arith;
      school_unknown = omega arith;
      date = eqb-true _ _ (both_right (leb (length s) 65536) _ e);
      short = leb-true _ _ (both_left _ _ e);
    }

-- The places found one behind the other are those of the definition.
pub places_made :
    (s : List ℕ) (events public_unknown school school_unknown date : ℕ)
    → events ≡ behind s 0
    → public_unknown ≡ behind s (events + 8)
    → school ≡ behind s public_unknown
    → school_unknown ≡ behind s school
    → date ≡ behind s school_unknown
    → places_of s ≡ record { events = events; public = events + 8; public_unknown = public_unknown; school = school; school_unknown = school_unknown; date = date }
unfolding places_of
places_made s events public_unknown school school_unknown date a b c d e = rw (e, d, c, b, a)

-- A whole input is framed, and its places are within it.
pub is_framed : (s : List ℕ) (f : Frame) → places_of s ≡ f → whole (length s) (f.date + 6) ≡ true → Some f ≡ frame_of s
unfolding frame_of
is_framed s f e k = rw (e, k)

-- Said of the places that the code found.
pub places-within : (s : List ℕ) (f : Frame) → places_of s ≡ f → whole (length s) (f.date + 6) ≡ true → Within f (length s)
places-within s f e k = rw e at (within s (rw (← e) at k))

-- Any other is not framed.
pub not_framed : (s : List ℕ) (f : Frame) → places_of s ≡ f → whole (length s) (f.date + 6) ≡ false → None ≡ frame_of s
unfolding frame_of
not_framed s f e k = rw (e, k)
