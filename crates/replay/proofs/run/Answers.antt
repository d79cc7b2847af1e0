-- Each vector's verdict is counted.
use Rattle.std.proofs.Common.{◌≡◌, ℕ, Bool, List, [], ◌∷◌, refl, ◌∙◌}
use Rattle.replay.specs.Replay.{counted, tally_of, Counts}
use Rattle.replay.specs.declared.Tally.{Tally}
use Rattle.replay.proofs.run.Goals as goal
use Rattle.replay.proofs.run.Goals.{in-Some-vector_in+in_ok-tally, in_default-vector_in}

-- One verdict more is the next that is counted.
counted-more : (gives : List ℕ → List ℕ → Bool → Type 0) (t r : Tally) (q d : List ℕ) (same : Bool) → Counts gives t → gives q d same → r ≡ counted t same → Counts gives r
unfolding tally_of
counted-more gives t r q d same c g e =
    record { verdicts = same ∷ c.verdicts; judged = ((q, d, g), c.judged); is = rw (e, c.is) }

pub loop-init : goal.loop-init
loop-init g c = record { verdicts = []; judged = tt; is = c.start-tally.ensures }

pub loop-preserved : goal.loop-preserved
loop-preserved g c =
    elim c.match-vector_in.branch [
      | in-Some-vector_in+in_ok-tally w ↦ counted-more _ _ _ _ _ _ c.loop.invariant (record { first = _; second = _; shows = (refl, refl); says = record { met = w.says.ensures } }) (w.tally-is ∙ w.in_ok-tally.ensures.ok)
      | in_default-vector_in w ↦ rw w.tally-is c.loop.invariant
    ]
