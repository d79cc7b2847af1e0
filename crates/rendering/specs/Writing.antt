-- What writing into lent bytes does.
use Rattle.std.specs.Prelude.{◌≡◌, ℕ, ◌+◌, ◌≤◌, List, length}
use Rattle.std.proofs.lemmas.List.Edits.{sets}
use Rattle.rendering.specs.declared.Writer.{Writer}
use Rattle.rendering.specs.Text.{decimal}

-- n bytes more fit
abbrev pub HasRoom : Writer → ℕ → Type 0
HasRoom w n = w.at + n ≤ length w.out.now

-- xs stands in o' from `at` on in place of what stood there in o, all else is as in o, and r is the place behind
pub record Wrote (o : List ℕ) (at : ℕ) (xs o' : List ℕ) (r : ℕ) : Type 0 where
  pub next : r ≡ at + length xs
  pub holds : o' ≡ sets o at xs

-- w' is w with xs written behind what was written, in the same lent bytes
pub record Writes (w : Writer) (xs : List ℕ) (w' : Writer) : Type 0 where
  pub same : w'.out.ghost_name ≡ w.out.ghost_name
  pub size : length w'.out.now ≡ length w.out.now
  pub is : Wrote w.out.now w.at xs w'.out.now w'.at

-- n has r decimal digits
pub record Width (n r : ℕ) : Type 0 where
  pub is : r ≡ length (decimal n)
  pub few : r ≤ 20
