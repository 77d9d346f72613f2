-- What a stop leaves of a job.
use Rattle.std.proofs.Common.{◌≡◌, ◌≢◌, ℕ, ◌+◌, ◌<◌, ◌≤◌, Bool, true, false, List, [], length, set, get_or, refl, ap, sym, subst, ◌∙◌, slice_get, arith, if◌then◌else◌}
use Rattle.std.proofs.lemmas.List.{get_or-set_other}
use Rattle.ulfm_job.specs.Job.{IsJob, JobView, is_decided_together, script_at, step_count, stopped_at, with_left, with_stop}
use Rattle.ulfm_job.proofs.Scripts.{step_count-set}
use Rattle.ulfm_job.proofs.WithStop.{length-stopped_at}
use Rattle.ulfm_job.specs.declared.step.Step.{Step}
use Rattle.ulfm_job.specs.declared.clause.Clause.{Clause}
use Rattle.ulfm_job.specs.Place.{IsPlaceOf, IsStopOf, before, expecting, stopped}
use Rattle.ulfm_job.specs.declared.place.Place.{Place}
use Rattle.ulfm_job.specs.declared.place.Place.TheVariants.{Nowhere, One, Two}
use Rattle.ulfm_job.specs.declared.stop.Stop.{Stop}

scripts_are : (stop : Stop) (j : JobView) (b : Bool) → (if b then with_left stop.rank stop.at (with_stop stop.rank (before stop) j) else with_stop stop.rank (before stop) j).scripts ≡ set j.scripts stop.rank (stopped_at (before stop) (script_at j stop.rank))
scripts_are stop j true = refl
scripts_are stop j false = refl

ranks_are : (stop : Stop) (j : JobView) (b : Bool) → (if b then with_left stop.rank stop.at (with_stop stop.rank (before stop) j) else with_stop stop.rank (before stop) j).ranks ≡ j.ranks
ranks_are stop j true = refl
ranks_are stop j false = refl

-- other ranks have their steps as before
script_beside : (stop : Stop) (j : JobView) (r : ℕ) → r ≢ stop.rank → script_at (stopped stop j) r ≡ script_at j r
script_beside stop j r other = ap (λ (scripts : List (List Step)). get_or scripts r []) (scripts_are stop j stop.dies) ∙ get_or-set_other j.scripts stop.rank r _ [] other

-- a stop of another rank is one of the job with the first one too
pub stop_still : (j m : JobView) (first second : Stop) → m ≡ stopped first j → second.rank ≢ first.rank → IsStopOf j second → IsStopOf m second
stop_still j m first second is other h =
    let same = sym (script_beside first j second.rank other) in
    subst (λ (x : JobView). IsStopOf x second) (sym is) (record {
      rank = subst (λ (n : ℕ). second.rank < n) (sym (ranks_are first j first.dies)) h.rank;
      at = subst (λ (steps : List Step). before second ≤ length steps) same h.at;
      joint = λ dies. subst (λ (steps : List Step). is_decided_together (slice_get steps second.at) ≡ true) same (h.joint dies);
    })

still_of : (expected : List Clause) (j : JobView) (stop : Stop) → IsStopOf j stop → IsStopOf (expecting expected j) stop
still_of expected j stop h = record { rank = h.rank; at = h.at; joint = h.joint }

-- where ranks stop doesn't depend on what is expected
pub inside-expecting : (expected : List Clause) (j : JobView) (place : Place) → IsPlaceOf j place → IsPlaceOf (expecting expected j) place
inside-expecting expected j Nowhere h = h
inside-expecting expected j (One stop) h = still_of expected j stop h
inside-expecting expected j (Two first second) h = (h.0, still_of expected j first h.1, still_of expected j second h.2)

-- a stop is one more step
pub counted_more : (j m : JobView) (r at : ℕ) → IsJob j → r < j.ranks → at ≤ length (script_at j r) → m ≡ with_stop r at j → step_count m.scripts ≡ step_count j.scripts + 1
counted_more j m r at is lt le same =
    ap (λ (x : JobView). step_count x.scripts) same
    ∙ step_count-set j.scripts r (stopped_at at (script_at j r)) (let each = is.script_each in omega (arith, lt, each)) (length-stopped_at at (script_at j r) le)
