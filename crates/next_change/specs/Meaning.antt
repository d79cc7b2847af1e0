-- What an answer that is not refused before the search says.
use Rattle.std.specs.Prelude.{◌≡◌, ℕ, Result}
use Rattle.changes.specs.Search.{Told, Found}
use Rattle.changes.specs.Meaning.{NextMeans}
use Rattle.next_change.specs.Answer.{change_of}
use Rattle.next_change.specs.declared.Change.{Change}
use Rattle.next_change.specs.declared.Refused.{Refused}

-- r says what is found from minute t of day n on within k days: the first later minute of another state, that there is none, or the first refused day
pub record Says (day : ℕ → Told) (n t k : ℕ) (r : Result Change Refused) : Type 0 where
  pub found : Found
  pub is : r ≡ change_of found
  pub means : NextMeans day n t k found
