-- What stands in an input at a place: a number, or bytes behind their length; read where they were written, and written where they were read.
use mathlib.Core.Path.{◌≡◌, refl, sym, ap, ◌∙◌}
use mathlib.Core.List.{List, [], ◌∷◌, ◌++◌, append_assoc}
use Prim.Native.Nat.{ℕ, suc, ◌+◌, ◌-◌, ◌*◌, ◌/◌, ◌%◌, ◌≤◌, ◌<◌}
use native.Mathlib.Numerals.{add-one}
use native.Mathlib.Omega.{arith}
use lib.ListN.{length, get_or, take, drop, length-append, length-take, length-drop, take-append-drop}
use lib.Seq.{drop-cons, drop-drop, take_at, drop-append-add, get_or-append_seam, get_or-append-add}
use Rattle.framing.specs.Framing.{half, sized}
use Rattle.framing.specs.Reading.{half_at, behind, bytes_of}

-- The two bytes behind pre make the number again.
pub half-read : (s pre zs : List ℕ) (n at : ℕ) → s ≡ pre ++ (half n ++ zs) → at ≡ length pre → half_at s at ≡ n
half-read s pre zs n at e h =
    rw (e, h, get_or-append_seam pre (n / 256) (n % 256 ∷ zs) 0, get_or-append-add pre (half n ++ zs) 1 0) (omega arith)

-- A number that stands behind others.
pub half-later : (s pre xs zs : List ℕ) (n at k : ℕ) → s ≡ pre ++ (xs ++ (half n ++ zs)) → at ≡ length pre → k ≡ length xs → half_at s (at + k) ≡ n
half-later s pre xs zs n at k e h l =
    half-read s (pre ++ xs) zs n (at + k) (e ∙ sym (append_assoc pre xs (half n ++ zs))) (simp length-append (omega arith))

-- The length behind pre is that of ys, so the place behind is that behind ys.
pub behind-read : (s pre ys zs : List ℕ) (at : ℕ) → s ≡ pre ++ (sized ys ++ zs) → at ≡ length pre → behind s at ≡ length (pre ++ sized ys)
unfolding behind sized
behind-read s pre ys zs at e h =
    let n = half-read s pre (ys ++ zs) (length ys) at e h in
    omega (arith, length-append pre (half (length ys) ++ ys))

-- Between the two places stands ys.
pub bytes_read : (s pre ys zs : List ℕ) (at next : ℕ) → s ≡ pre ++ (sized ys ++ zs) → at ≡ length pre → next ≡ length (pre ++ sized ys) → bytes_of s at next ≡ ys
unfolding sized
bytes_read s pre ys zs at next e h k =
    let t : drop (at + 2) s ≡ ys ++ zs = rw (e, h) (drop-append-add pre (half (length ys) ++ (ys ++ zs)) 2) in
    let n : length ys ≡ next - (at + 2) = omega (arith, length-append pre (half (length ys) ++ ys)) in
    rw t (take_at ys zs (next - (at + 2)) n)

-- every element is a byte
abbrev pub Bytes : List ℕ → Type 0
Bytes s = (i : ℕ) → get_or s i 0 < 256

split-half : (a b : ℕ) → b < 256 → half (a * 256 + b) ≡ a ∷ b ∷ []
split-half a b h =
    let p : (a * 256 + b) / 256 ≡ a = omega arith in
    let q : (a * 256 + b) % 256 ≡ b = omega arith in
    rw (p, q)

-- The next two bytes are those of the number that they make.
pub half-front : (s : List ℕ) → Bytes s → (at next : ℕ) → next ≡ at + 2 → next ≤ length s → drop at s ≡ half (half_at s at) ++ drop next s
half-front s b at next e h =
    let i : at < length s = omega arith in
    let j : at + 1 < length s = omega arith in
    let n : next ≡ suc (at + 1) = omega arith in
    let first : drop at s ≡ get_or s at 0 ∷ drop (at + 1) s = rw (add-one at) (drop-cons s at 0 i) in
    let second : drop (at + 1) s ≡ get_or s (at + 1) 0 ∷ drop next s = rw n (drop-cons s (at + 1) 0 j) in
    first
    ∙ ap (λ (l : List ℕ). get_or s at 0 ∷ l) second
    ∙ ap (λ (l : List ℕ). l ++ drop next s) (sym (split-half (get_or s at 0) (get_or s (at + 1) 0) (b (at + 1))))

cut-in-two : (s : List ℕ) (from to : ℕ) → from ≤ to → drop from s ≡ take (to - from) (drop from s) ++ drop to s
cut-in-two s from to h =
    let e : from + (to - from) ≡ to = omega arith in
    sym (take-append-drop (to - from) (drop from s)) ∙ rw (drop-drop (to - from) from s, e)

-- The next bytes are their length, as many bytes, and the rest.
pub sized-front : (s : List ℕ) → Bytes s → (at next : ℕ) → next ≡ behind s at → next ≤ length s → drop at s ≡ sized (bytes_of s at next) ++ drop next s
unfolding behind sized
sized-front s b at next e h =
    let n : length (bytes_of s at next) ≡ half_at s at = simp (length-take, length-drop) (omega arith) in
    half-front s b at (at + 2) refl (omega arith)
    ∙ rw n (ap (λ (l : List ℕ). half (half_at s at) ++ l) (cut-in-two s (at + 2) next (omega arith)))
