-- Small days, each one that another reading of the rules would answer otherwise; by computing the definitions.
use mathlib.Core.Path.{◌≡◌, refl}
use mathlib.Core.Bool.{true, false, ◌&&◌}
use mathlib.Core.List.{List, [], ◌∷◌, ◌++◌}
use mathlib.Core.Option.{Option, none, some}
use Prim.Native.Nat.{ℕ, zero, suc, ◌+◌, ◌*◌}
use lib.Dec.{leb, ltb}
use lib.ListN.{length}
use Rattle.rules.specs.declared.Operator.{Operator}
use Rattle.rules.specs.declared.Operator.TheVariants.{Normal, Additional, Fallback}
use Rattle.ranges.specs.States.{Shown, dark, shows}
use Rattle.ranges.specs.Build.{Span, covered_b}
use Rattle.ranges.proofs.Examples.{range}
use Rattle.reading.specs.Ruled.{Part, Ruled}
use Rattle.reading.specs.Reading.{throughout, state_of, reading, no_label}
use Rattle.reading.specs.Ranging.{Spanned, Ranged, over64, gives, range_reading, ranges_of}

-- a day that the rule does not match, and one that it matches, in a kind, from minute a to b
abbrev off : Part
off = record { on = false; kind = 0; covers = λ t. false }

abbrev from : ℕ → ℕ → ℕ → Part
from k a b = record { on = true; kind = k; covers = λ t. leb a t && ltb t b }

abbrev rule : Operator → ℕ → Part → Part → Ruled
rule o k today night = record { operator = o; kind = k; comment = 0; today = today; night = night }

-- the state at a minute
abbrev shown : List Ruled → ℕ → Shown
shown ms t = state_of (reading no_label ms t)

-- all day
abbrev always : Operator → ℕ → Ruled
always o k = rule o k (from k 0 1440) off

-- yesterday only, 20:00 to 26:00
abbrev late : Operator → Ruled
late o = rule o 0 off (from 0 1200 1560)

-- with a comment
abbrev noted : ℕ → Ruled → Ruled
noted c m = record { operator = m.operator; kind = m.kind; comment = c; today = m.today; night = m.night }

-- last night wins over today
pub night-wins : shown (rule Normal 0 (from 0 0 600) (from 2 1200 1560) ∷ []) 60 ≡ shows 2 0
night-wins = refl

-- a rule that matches and covers nothing replaces what was there
pub no-spans : shown (always Normal 0 ∷ rule Normal 0 (from 0 0 0) off ∷ []) 60 ≡ dark
no-spans = refl

-- a match yesterday only is no match: the fallback takes over
pub night-no-match : shown (late Normal ∷ always Fallback 2 ∷ []) 60 ≡ shows 2 0
night-no-match = refl

-- a fallback does not keep what is shut, and takes its own match: the second takes over again
pub shut-replaced : shown (rule Normal 1 (from 1 0 0) off ∷ late Fallback ∷ always Fallback 2 ∷ []) 60 ≡ shows 2 0
unfolding throughout
shut-replaced = refl

-- but it keeps what lasts
pub lasting-kept : shown (rule Normal 0 (from 0 600 1080) off ∷ always Fallback 2 ∷ []) 60 ≡ dark
unfolding throughout
lasting-kept = refl

-- and what is closed with a comment lasts
pub comment-kept : shown (noted 3 (always Normal 1) ∷ always Fallback 2 ∷ []) 60 ≡ shows 1 3
unfolding throughout
comment-kept = refl

-- a fallback that matches neither day drops what only last night left
pub night-dropped : shown (late Normal ∷ rule Fallback 0 off off ∷ []) 60 ≡ dark
night-dropped = refl

-- a normal open rule that matches yesterday only loses its night to a previous that lasts
pub night-lost : shown (rule Normal 0 (from 0 600 1080) off ∷ late Normal ∷ []) 60 ≡ dark
unfolding throughout
night-lost = refl

-- and replaces one that is shut
pub night-taken : shown (rule Normal 1 (from 1 600 1080) off ∷ late Normal ∷ []) 60 ≡ shows 0 0
unfolding throughout
night-taken = refl

-- an additional rule lies over what was there, and leaves the rest
pub over-the-rest : shown (rule Normal 0 (from 0 600 1080) off ∷ rule Additional 0 (from 2 720 780) off ∷ []) 660 ≡ shows 0 0
over-the-rest = refl

pub over-it : shown (rule Normal 0 (from 0 600 1080) off ∷ rule Additional 0 (from 2 720 780) off ∷ []) 720 ≡ shows 2 0
over-it = refl

-- a closed rule that a holiday makes unknown still overlays: the operator sees the rule's own kind
pub own-kind : shown (rule Normal 0 (from 0 600 1080) off ∷ rule Normal 1 (from 2 720 780) off ∷ []) 660 ≡ shows 0 0
own-kind = refl

-- and an open rule that a holiday makes unknown still replaces
pub own-kind-open : shown (rule Normal 0 (from 0 600 1080) off ∷ rule Normal 0 (from 2 720 780) off ∷ []) 660 ≡ dark
own-kind-open = refl

-- in ranges: a rule whose spans are clipped already
abbrev spanned : Operator → ℕ → List Span → Part → List Span → Spanned
spanned o k a night b = record { rule = rule o k (record { on = true; kind = k; covers = covered_b a }) night; today = a; night = b }

abbrev span : ℕ → ℕ → Span
span a b = record { start = a; end = b }

-- last night wins over today here too
pub night-over : range_reading (spanned Normal 0 (span 0 600 ∷ []) (from 2 1200 1560) (span 0 120 ∷ []) ∷ []) ≡ gives (some (range 0 120 2 0 ∷ range 120 600 0 0 ∷ []))
night-over = refl

-- n islands from minute a on, and an additional closed rule of them
abbrev islands : ℕ → ℕ → List Span
islands zero a = []
islands (suc n) a = span a (a + 10) ∷ islands n (a + 20)

abbrev isle : ℕ → ℕ → Spanned
isle k n = spanned Additional 1 (islands n (k * 160)) off []

abbrev eight : List Spanned
eight = isle 0 8 ∷ isle 1 8 ∷ isle 2 8 ∷ isle 3 8 ∷ isle 4 8 ∷ isle 5 8 ∷ isle 6 8 ∷ isle 7 8 ∷ []

abbrev count : Ranged → Option ℕ
count (over64 n) = none
count (gives e) = some (length (ranges_of e))

-- 64 ranges are accepted; the 65th, of the ninth rule, is refused at rule 8; closed ranges without comment count
pub sixty-four : count (range_reading eight) ≡ some 64
sixty-four = refl

pub sixty-five : range_reading (eight ++ (isle 8 1 ∷ [])) ≡ over64 8
sixty-five = refl
