-- The minute reading: what a day shows at a minute. It knows no ranges. What is shown carries a label that says whence it comes.
use Rattle.std.specs.Prelude.{Bool, true, false, cond, ◌&&◌, ◌||◌, List, [], ◌∷◌, ℕ, zero, suc, ◌+◌, eqb}
use Rattle.std.proofs.Math.Option.{Option, none, some}
use Rattle.ranges.specs.States.{Shown, dark, shows, lit}
use Rattle.reading.specs.Ruled.{Part, Ruled}
use Rattle.reading.specs.Operators.{Turn, start, when, turn}

-- nothing, or a kind, a comment and a label
pub data Seen (L : Type 0) : Type 0 where
  nothing : Seen L
  seen : ℕ → ℕ → L → Seen L

-- every minute before n passes the test
unfoldable pub throughout : ℕ → (ℕ → Bool) → Bool
throughout zero test = true
throughout (suc n) test = test n && throughout n test

module _ {L : Type 0} where
  -- the state alone
  abbrev pub state_of : Seen L → Shown
  state_of nothing = dark
  state_of (seen k c l) = shows k c

  -- a where it shows something, else b
  abbrev pub above : Seen L → Seen L → Seen L
  above nothing b = b
  above (seen k c l) b = seen k c l

  -- nothing but closed without comment
  abbrev pub dim : Seen L → Bool
  dim nothing = true
  dim (seen k c l) = eqb k 1 && eqb c 0

  -- shut: no minute shows anything but closed without comment
  abbrev pub shut_m : (ℕ → Seen L) → Bool
  shut_m f = throughout 1440 (λ t. dim (f t))

  -- overlay: at each minute e, and p where e shows nothing
  abbrev pub lay_m : (ℕ → Seen L) → (ℕ → Seen L) → ℕ → Seen L
  lay_m p e t = above (e t) (p t)

  -- the part's state if the rule matches its day and a span covers minute t of its clock, else nothing
  abbrev pub part_m : L → ℕ → Part → ℕ → Seen L
  part_m l c p t = cond (p.on && p.covers t) (seen p.kind c l) nothing

  -- what an evaluation shows at minute t, none being nothing
  abbrev pub shown_by : Option (ℕ → Seen L) → ℕ → Seen L
  shown_by none t = nothing
  shown_by (some f) t = f t

  -- the label of what rule n shows: `lab n true` if it is last night's, `lab n false` if it is today's
  module _ (lab : ℕ → Bool → L) where
    -- what last night still shows, a day later on its clock; failing that, what today shows
    abbrev pub minute_m : ℕ → Ruled → ℕ → Seen L
    minute_m n m t = above (part_m (lab n true) m.comment m.night (t + 1440)) (part_m (lab n false) m.comment m.today t)

    -- rule n's turn: whether it matches today, and its evaluation, none if it matches neither day
    abbrev pub own_m : ℕ → Ruled → Turn (ℕ → Seen L)
    own_m n m = record { matched = m.today.on; eval = when (m.today.on || m.night.on) (minute_m n m) }

    -- the rules from number n on, after p
    abbrev pub read_m : ℕ → List Ruled → Turn (ℕ → Seen L) → Turn (ℕ → Seen L)
    read_m n [] p = p
    read_m n (m ∷ ms) p = read_m (n + 1) ms (turn shut_m lay_m m.operator m.kind p (own_m n m))

    -- THE MINUTE READING
    abbrev pub reading : List Ruled → ℕ → Seen L
    reading ms t = shown_by (read_m 0 ms start).eval t

-- for those who don't ask whence
abbrev pub no_label : ℕ → Bool → Unit {0}
no_label n b = tt

-- THE STATE OF THE DAY at minute t: closed without comment where nothing is shown
abbrev pub day_at : List Ruled → ℕ → Shown
day_at ms t = lit (state_of (reading no_label ms t))
