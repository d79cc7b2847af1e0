-- The program's lines, as bytes. Each ends with a line feed, 10; a space is 32, a colon 58, the digits are 48 to 57.
use Rattle.std.specs.Prelude.{ℕ, zero, suc, ◌+◌, ◌/◌, ◌%◌, cond, List, [], ◌∷◌, ◌++◌, eqb, ltb}
use Rattle.ranges.specs.Range.{Range}

abbrev pub digit : ℕ → ℕ
digit d = 48 + d

-- a number in at most so many digits, without a leading zero
unfoldable pub decimal_in : ℕ → ℕ → List ℕ
decimal_in zero n = []
decimal_in (suc k) n = cond (ltb n 10) (digit n ∷ []) (decimal_in k (n / 10) ++ (digit (n % 10) ∷ []))

-- a number below 10 ^ 20 in decimal
abbrev pub decimal : ℕ → List ℕ
decimal n = decimal_in 20 n

abbrev pub two_digits : ℕ → List ℕ
two_digits n = digit (n / 10) ∷ digit (n % 10) ∷ []

-- a minute of the day, as in 10:00 or 24:00
abbrev pub time_text : ℕ → List ℕ
time_text t = two_digits (t / 60) ++ (58 ∷ two_digits (t % 60))

abbrev pub open_text : List ℕ
open_text = 111 ∷ 112 ∷ 101 ∷ 110 ∷ []

abbrev pub closed_text : List ℕ
closed_text = 99 ∷ 108 ∷ 111 ∷ 115 ∷ 101 ∷ 100 ∷ []

abbrev pub unknown_text : List ℕ
unknown_text = 117 ∷ 110 ∷ 107 ∷ 110 ∷ 111 ∷ 119 ∷ 110 ∷ []

-- 0 open, 1 closed, 2 unknown
unfoldable pub kind_text : ℕ → List ℕ
kind_text k = cond (eqb k 0) open_text (cond (eqb k 1) closed_text unknown_text)

abbrev pub spaced : List ℕ → List ℕ
spaced xs = xs ++ (32 ∷ [])

abbrev pub ended : List ℕ → List ℕ
ended xs = xs ++ (10 ∷ [])

-- an entry's start, end, kind and comment, as in `10:00 18:00 open 0`
unfoldable pub line_of : Range → List ℕ
line_of r = spaced (time_text r.start) ++ (spaced (time_text r.end) ++ (spaced (kind_text r.kind) ++ ended (decimal r.comment)))

-- a line for each entry
abbrev pub lines_of : List Range → List ℕ
lines_of [] = []
lines_of (r ∷ l) = line_of r ++ lines_of l

-- `refused `
abbrev pub refused_text : List ℕ
refused_text = 114 ∷ 101 ∷ 102 ∷ 117 ∷ 115 ∷ 101 ∷ 100 ∷ 32 ∷ []

-- ` place `
abbrev pub place_text : List ℕ
place_text = 32 ∷ 112 ∷ 108 ∷ 97 ∷ 99 ∷ 101 ∷ 32 ∷ []

-- a refusal's number and place, as in `refused 8 place 3`
unfoldable pub refusal_line : ℕ → ℕ → List ℕ
refusal_line n place = refused_text ++ (decimal n ++ (place_text ++ ended (decimal place)))

-- `bad input`
abbrev pub bad_input : List ℕ
bad_input = ended (98 ∷ 97 ∷ 100 ∷ 32 ∷ 105 ∷ 110 ∷ 112 ∷ 117 ∷ 116 ∷ [])
