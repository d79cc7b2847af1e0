-- The reading finds the parts of every input that has the form, and an input that it takes has the form.
use mathlib.Core.Path.{◌≡◌, refl, ap, ◌∙◌}
use mathlib.Core.Bool.{Bool, true, false}
use mathlib.Core.List.{List, [], ◌++◌, append_assoc}
use Prim.Native.Nat.{ℕ, ◌+◌, ◌≤◌}
use native.Mathlib.Omega.{arith}
use borrow.Author.Tests.{eq-eqb, le-leb}
use lib.ListN.{length, drop, length-append}
use lib.Seq.{drop-length}
use Rattle.framing.specs.declared.Frame.{Frame}
use Rattle.framing.specs.Framing.{Parts, half, sized, event_bytes, date_bytes, framed}
use Rattle.std.specs.Prelude.{Some}
use Rattle.std.proofs.lemmas.Option.{none-some, same_Some}
use Rattle.framing.specs.Reading.{half_at, behind, whole, places_of, frame_of, parts_at, parts_of, bytes_of}
use Rattle.framing.proofs.Places.{within}
use Rattle.framing.proofs.Fronts.{half-read, half-later, behind-read, bytes_read, Bytes, half-front, sized-front}

-- the bytes in front of each part
module _ (p : Parts) where
  abbrev to-events : List ℕ
  to-events = sized p.rules

  abbrev to-public : List ℕ
  to-public = to-events ++ event_bytes p

  abbrev to-public-unknown : List ℕ
  to-public-unknown = to-public ++ sized p.public

  abbrev to-school : List ℕ
  to-school = to-public-unknown ++ sized p.public_unknown

  abbrev to-school-unknown : List ℕ
  to-school-unknown = to-school ++ sized p.school

  abbrev to-date : List ℕ
  to-date = to-school-unknown ++ sized p.school_unknown

  -- and behind it
  abbrev from-school-unknown : List ℕ
  from-school-unknown = sized p.school_unknown ++ date_bytes p

  abbrev from-school : List ℕ
  from-school = sized p.school ++ from-school-unknown

  abbrev from-public-unknown : List ℕ
  from-public-unknown = sized p.public_unknown ++ from-school

  abbrev from-public : List ℕ
  from-public = sized p.public ++ from-public-unknown

  -- the places behind them
  abbrev frame_here : Frame
  frame_here =
      record {
        events = length to-events;
        public = length to-public;
        public_unknown = length to-public-unknown;
        school = length to-school;
        school_unknown = length to-school-unknown;
        date = length to-date;
      }

pub in_place : (p : Parts) → length (framed p) ≤ 65536 → frame_of (framed p) ≡ Some (frame_here p)
unfolding framed frame_of places_of
in_place p h =
    let s = framed p in
    let a = behind-read s [] p.rules _ 0 refl refl in
    let b : behind s 0 + 8 ≡ length (to-public p) = simp length-append (omega arith) in
    let c = behind-read s (to-public p) p.public (from-public-unknown p) (length (to-public p)) (simp append_assoc) refl in
    let d = behind-read s (to-public-unknown p) p.public_unknown (from-school p) (length (to-public-unknown p)) (simp append_assoc) refl in
    let e = behind-read s (to-school p) p.school (from-school-unknown p) (length (to-school p)) (simp append_assoc) refl in
    let f = behind-read s (to-school-unknown p) p.school_unknown (date_bytes p) (length (to-school-unknown p)) (simp append_assoc) refl in
    let g : length (to-date p) + 6 ≡ length s = simp length-append (omega arith) in
    rw (b, c, d, e, f, le-leb (length s) 65536 h, eq-eqb _ _ g, a)

parts-here : (p : Parts) → parts_at (framed p) (frame_here p) ≡ p
unfolding framed parts_at
parts-here p =
    let s = framed p in
    let at = length (to-events p) in
    let to = length (to-date p) in
    let rules = bytes_read s [] p.rules _ 0 at refl refl refl in
    let dawn = half-read s (to-events p) _ p.dawn at refl refl in
    let sunrise = half-later s (to-events p) (half p.dawn) _ p.sunrise at 2 refl refl refl in
    let sunset = half-later s (to-events p) (half p.dawn ++ half p.sunrise) _ p.sunset at 4 refl refl refl in
    let dusk = half-later s (to-events p) (half p.dawn ++ (half p.sunrise ++ half p.sunset)) _ p.dusk at 6 refl refl refl in
    let public = bytes_read s (to-public p) p.public (from-public-unknown p) (length (to-public p)) (length (to-public-unknown p)) (simp append_assoc) refl refl in
    let unsure = bytes_read s (to-public-unknown p) p.public_unknown (from-school p) (length (to-public-unknown p)) (length (to-school p)) (simp append_assoc) refl refl in
    let school = bytes_read s (to-school p) p.school (from-school-unknown p) (length (to-school p)) (length (to-school-unknown p)) (simp append_assoc) refl refl in
    let last = bytes_read s (to-school-unknown p) p.school_unknown (date_bytes p) (length (to-school-unknown p)) to (simp append_assoc) refl refl in
    let e : s ≡ to-date p ++ date_bytes p = simp append_assoc in
    let year = half-read s (to-date p) _ p.year to e refl in
    let month = half-later s (to-date p) (half p.year) _ p.month to 2 e refl refl in
    let day = half-later s (to-date p) (half p.year ++ half p.month) [] p.day to 4 e refl refl in
    rw (rules, dawn, sunrise, sunset, dusk, public, unsure, school, last, year, month, day)

-- EVERY INPUT OF THE FORM IS TAKEN, AND ITS PARTS ARE FOUND: each part stands behind those before it, where the lengths say.
pub parts-found : (p : Parts) → length (framed p) ≤ 65536 → parts_of (framed p) ≡ Some p
unfolding parts_of
parts-found p h = rw (in_place p h, parts-here p)

-- What follows a number, or bytes, may be put in its written form.
module _ (s : List ℕ) (b : Bytes s) where
  number : (at to : ℕ) {rest : List ℕ} → to ≡ at + 2 → to ≤ length s → drop to s ≡ rest → drop at s ≡ half (half_at s at) ++ rest
  number at to e h t = half-front s b at to e h ∙ ap (λ (l : List ℕ). half (half_at s at) ++ l) t

  bytes : (at to : ℕ) {rest : List ℕ} → to ≡ behind s at → to ≤ length s → drop to s ≡ rest → drop at s ≡ sized (bytes_of s at to) ++ rest
  bytes at to e h t = sized-front s b at to e h ∙ ap (λ (l : List ℕ). sized (bytes_of s at to) ++ l) t

-- The parts at a whole input's places, one behind the other, make it again.
at-places : (s : List ℕ) → Bytes s → whole (length s) ((places_of s).date + 6) ≡ true → s ≡ framed (parts_at s (places_of s))
unfolding framed places_of parts_at
at-places s b ok =
    let w = within s ok in
    let f = places_of s in
    let a = f.events in
    let d = f.date in
    let ends : drop (d + 6) s ≡ [] = rw w.date (drop-length s) in
    bytes s b 0 a refl (omega arith)
    (number s b a (a + 2) refl (omega arith)
    (number s b (a + 2) (a + 4) (omega arith) (omega arith)
    (number s b (a + 4) (a + 6) (omega arith) (omega arith)
    (number s b (a + 6) (a + 8) (omega arith) (omega arith)
    (bytes s b f.public f.public_unknown refl (omega arith)
    (bytes s b f.public_unknown f.school refl (omega arith)
    (bytes s b f.school f.school_unknown refl (omega arith)
    (bytes s b f.school_unknown d refl (omega arith)
    (number s b d (d + 2) refl (omega arith)
    (number s b (d + 2) (d + 4) (omega arith) (omega arith)
    (number s b (d + 4) (d + 6) (omega arith) (omega arith) ends)))))))))))

-- The parts are those at the places of a whole input.
taken : (s : List ℕ) (p : Parts) → parts_of s ≡ Some p → (whole (length s) ((places_of s).date + 6) ≡ true) × (parts_at s (places_of s) ≡ p)
unfolding parts_of frame_of
taken s p e = by (whole (length s) ((places_of s).date + 6)) refl
  where
    by : (b : Bool) → whole (length s) ((places_of s).date + 6) ≡ b → (whole (length s) ((places_of s).date + 6) ≡ true) × (parts_at s (places_of s) ≡ p)
    by true k = (k, same_Some _ _ (rw k at e))
    by false k = absurd (none-some p (rw k at e))

-- WHAT IS TAKEN HAS THE FORM: each part is written as it was read, up to the end of the input.
pub has-form : (s : List ℕ) → Bytes s → (p : Parts) → parts_of s ≡ Some p → s ≡ framed p
has-form s b p e = let t = taken s p e in at-places s b t.0 ∙ ap framed t.1

-- AND AT MOST 65,536 BYTES.
pub short : (s : List ℕ) (p : Parts) → parts_of s ≡ Some p → length s ≤ 65536
short s p e = (within s (taken s p e).0).short
