-- What an answer says: the first later minute of another state, the days examined, the first refusal.
use Rattle.std.specs.Prelude.{◌≡◌, true, false, ℕ, ◌+◌, ◌*◌, ◌≤◌, ◌<◌}
use Rattle.ranges.specs.States.{Shown}
use Rattle.changes.specs.Search.{Told, refuses, tells, Found, stopped, changes, never, alike, shown_at}

-- minute u of day d, counted through
abbrev pub moment : ℕ → ℕ → ℕ
moment d u = d * 1440 + u

-- not refused
abbrev pub Whole : Told → Type 0
Whole (refuses r) = ⊥
Whole (tells f) = Unit {0}

module _ (day : ℕ → Told) (s : Shown) where
  -- every minute from x up to y shows s
  abbrev pub Calm : ℕ → ℕ → Type 0
  Calm x y = (d u : ℕ) → u < 1440 → x ≤ moment d u → moment d u < y → alike (shown_at (day d) u) s ≡ true

  -- none of the days from d up to e is refused
  abbrev pub AllWhole : ℕ → ℕ → Type 0
  AllWhole d e = (i : ℕ) → d ≤ i → i < e → Whole (day i)

  -- from minute t of day d on, within k days: minute m of day e is the first that does not show s, and the days through e, none refused, make c with the n before
  pub record Changed (t d k n e m c : ℕ) : Type 0 where
    pub within : e < d + k
    pub minute : m < 1440
    pub from : moment d t ≤ moment e m
    pub other : alike (shown_at (day e) m) s ≡ false
    pub calm : Calm (moment d t) (moment e m)
    pub whole : AllWhole d (e + 1)
    pub examined : c + d ≡ n + (e + 1)

  -- day e is the first that is refused, and all before it shows s
  pub record Stopped (t d k e r : ℕ) : Type 0 where
    pub first : d ≤ e
    pub within : e < d + k
    pub refused : day e ≡ refuses r
    pub calm : Calm (moment d t) (moment e 0)
    pub whole : AllWhole d e

  -- none of the k days is refused, and all of them shows s
  pub record Still (t d k n c : ℕ) : Type 0 where
    pub calm : Calm (moment d t) (moment (d + k) 0)
    pub whole : AllWhole d (d + k)
    pub examined : c ≡ n + k

  abbrev pub Means : ℕ → ℕ → ℕ → ℕ → Found → Type 0
  Means t d k n (stopped e r) = Stopped t d k e r
  Means t d k n (changes e m c) = Changed t d k n e m c
  Means t d k n (never c) = Still t d k n c

-- THE RULE of the next change from minute t of day d, within k days
abbrev pub NextMeans : (ℕ → Told) → ℕ → ℕ → ℕ → Found → Type 0
NextMeans day d t k a = Means day (shown_at (day d) t) (t + 1) d k 0 a
