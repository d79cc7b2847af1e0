-- What a replay counts, and how it reads numbers. What is read from the input no contract can say.
use Rattle.std.specs.Prelude.{◌≡◌, ℕ, ◌+◌, ◌*◌, ◌%◌, ◌^◌, Bool, cond, List, [], ◌∷◌, nat_lt, slice_index, ⊤}
use Rattle.replay.specs.declared.Tally.{Tally}

-- one vector more, and one difference more where its answer is not the due one
unfoldable pub counted : Tally → Bool → Tally
counted t same =
    record {
      vectors = (t.vectors + 1) % 2 ^ 32;
      differences = cond same t.differences ((t.differences + 1) % 2 ^ 32);
    }

-- the tally of vectors, the last one first: whether each has the due answer
unfoldable pub tally_of : List Bool → Tally
tally_of [] = record { vectors = 0; differences = 0 }
tally_of (same ∷ before) = counted (tally_of before) same

-- each verdict is one that the judge gives on some question and the answer due to it
abbrev pub Judged : (List ℕ → List ℕ → Bool → Type 0) → List Bool → Type 0
Judged gives [] = ⊤
Judged gives (same ∷ before) = ((question due : List ℕ) × gives question due same) × Judged gives before

-- t counts a judge's verdicts
pub record Counts (gives : List ℕ → List ℕ → Bool → Type 0) (t : Tally) : Type 0 where
  pub verdicts : List Bool
  pub judged : Judged gives verdicts
  pub is : t ≡ tally_of verdicts

-- the u32 at a place, most significant byte first; bytes past the end are 0, and places from 2 ^ 32 on are past it
unfoldable pub word_at : List ℕ → ℕ → ℕ
word_at s at =
    cond (nat_lt 4294967295 at) 0
    (slice_index s at * 16777216 + slice_index s (at + 1) * 65536 + slice_index s (at + 2) * 256 + slice_index s (at + 3))
