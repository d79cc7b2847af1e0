-- How an input is read: its places follow from the lengths in it, bytes past its end being 0, and it is framed exactly when it is at most 65,536 bytes and ends where its parts do.
use Rattle.std.specs.Prelude.{cond, Option, Some, None, option_map, ◌≡◌, ℕ, ◌+◌, ◌-◌, ◌*◌, ◌≤◌, ◌<◌, Bool, ◌&&◌, List, eqb, leb, length, get_or, take, drop}
use Rattle.framing.specs.Framing.{Parts}
use Rattle.framing.specs.declared.Frame.{Frame}

-- the u16 at a place
abbrev pub half_at : List ℕ → ℕ → ℕ
half_at s at = get_or s at 0 * 256 + get_or s (at + 1) 0

-- the place behind bytes that have their length in front
unfoldable pub behind : List ℕ → ℕ → ℕ
behind s at = at + 2 + half_at s at

abbrev pub whole : ℕ → ℕ → Bool
whole len end = leb len 65536 && eqb end len

-- where the parts stand, one behind the other as the lengths say
unfoldable pub places_of : List ℕ → Frame
places_of s =
    let events = behind s 0 in
    let public = events + 8 in
    let public_unknown = behind s public in
    let school = behind s public_unknown in
    let school_unknown = behind s school in
    let date = behind s school_unknown in
    record {
      events = events;
      public = public;
      public_unknown = public_unknown;
      school = school;
      school_unknown = school_unknown;
      date = date;
    }

-- the places of a framed input
unfoldable pub frame_of : List ℕ → Option Frame
frame_of s = let f = places_of s in cond (whole (length s) (f.date + 6)) (Some f) None

-- the bytes between a part's length and the next part
abbrev pub bytes_of : List ℕ → ℕ → ℕ → List ℕ
bytes_of s at next = take (next - (at + 2)) (drop (at + 2) s)

-- the parts at such places
unfoldable pub parts_at : List ℕ → Frame → Parts
parts_at s f =
    record {
      rules = bytes_of s 0 f.events;
      dawn = half_at s f.events;
      sunrise = half_at s (f.events + 2);
      sunset = half_at s (f.events + 4);
      dusk = half_at s (f.events + 6);
      public = bytes_of s f.public f.public_unknown;
      public_unknown = bytes_of s f.public_unknown f.school;
      school = bytes_of s f.school f.school_unknown;
      school_unknown = bytes_of s f.school_unknown f.date;
      year = half_at s f.date;
      month = half_at s (f.date + 2);
      day = half_at s (f.date + 4);
    }

-- the parts of a framed input
unfoldable pub parts_of : List ℕ → Option Parts
parts_of s = option_map (parts_at s) (frame_of s)

-- r is the u16 there
pub record Half (s : List ℕ) (at r : ℕ) : Type 0 where
  pub is : r ≡ half_at s at
  pub small : r < 65536

-- r is the place behind the bytes there
pub record Behind (s : List ℕ) (at r : ℕ) : Type 0 where
  pub is : r ≡ behind s at
  pub near : r < at + 65538

-- the places of a framed input of n bytes: in order, and within it
pub record Within (f : Frame) (n : ℕ) : Type 0 where
  pub rules : 2 ≤ f.events
  pub events : f.public ≡ f.events + 8
  pub public : f.public + 2 ≤ f.public_unknown
  pub public_unknown : f.public_unknown + 2 ≤ f.school
  pub school : f.school + 2 ≤ f.school_unknown
  pub school_unknown : f.school_unknown + 2 ≤ f.date
  pub date : f.date + 6 ≡ n
  pub short : n ≤ 65536
