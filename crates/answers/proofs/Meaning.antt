-- What the program writes, said of an input's parts: the text of an input of the form is that of its parts, and any other is bad input.
use mathlib.Core.Path.{◌≡◌, refl}
use mathlib.Core.List.{List}
use Prim.Native.Nat.{ℕ, ◌≤◌, ◌<◌}
use native.Mathlib.Omega.{arith}
use lib.ListN.{length}
use Rattle.std.specs.Prelude.{Option, Some, None}
use Rattle.framing.specs.Framing.{Parts, framed}
use Rattle.framing.specs.Reading.{parts_of}
use Rattle.framing.proofs.Fronts.{Bytes}
use Rattle.framing.proofs.Meaning.{parts-found, has-form, short}
use Rattle.rendering.specs.Text.{bad_input}
use Rattle.answers.specs.Answers.{day_text, text_of}

-- AN INPUT OF THE FORM: its parts are found.
pub asked : (p : Parts) → length (framed p) ≤ 65536 → text_of (framed p) ≡ day_text p
unfolding text_of
asked p h = rw (parts-found p h)

refused : (s : List ℕ) → ((p : Parts) → parts_of s ≡ Some p → ⊥) → text_of s ≡ bad_input
unfolding text_of
refused s h = by (parts_of s) refl
  where
    by : (o : Option Parts) → parts_of s ≡ o → text_of s ≡ bad_input
    by (Some p) e = absurd (h p e)
    by None e = rw e

-- ANY OTHER: what is taken would have the form.
pub not-asked : (s : List ℕ) → Bytes s → ((p : Parts) → s ≡ framed p → ⊥) → text_of s ≡ bad_input
not-asked s b none = refused s (λ p e. none p (has-form s b p e))

-- A LONGER ONE: what is taken has at most 65,536 bytes.
pub too_long : (s : List ℕ) → 65536 < length s → text_of s ≡ bad_input
too_long s h = refused s (λ p e. omega (arith, short s p e))
