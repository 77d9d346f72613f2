-- The lists of all outcomes of what was asked for, at each of some places.
use Rattle.std.specs.Prelude.{◌≡◌, ℕ, true, List, [], ◌∷◌, length}
use Rattle.ulfm_job.specs.Job.{JobView}
use Rattle.ulfm_outcomes_spec.specs.Outcomes.{IsList}
use Rattle.ulfm_reach.specs.declared.reach.Reach.TheVariants.{All, More}
use Rattle.ulfm_reach.specs.declared.reached.Reached.{Reached}
use Rattle.ulfm_job.specs.declared.place.Place.{Place}
use Rattle.ulfm_outcomes_list.specs.declared.place_list.Listed.{Listed}
use Rattle.ulfm_command_line.specs.Stopped.{Asked, asked_at}
use Rattle.ulfm_outcomes_reply.specs.Wanted.{AreRuledOut}

-- the job that is asked for at a place
abbrev pub job_asked_at : Place → Asked → JobView
job_asked_at place asked = (asked_at place asked).job

-- this is what is kept of the list of all outcomes of the job that is asked for at the place, with whether the search for it ruled rows of `never` out
pub record IsListedAt (asked : Asked) (limit : ℕ) (place : Place) (one : Listed) : Type 0 where
  pub reached : Reached
  pub whole : IsList (job_asked_at place asked) limit (All reached)
  pub at : one.place ≡ place
  pub states : one.states ≡ length reached.keys
  pub found : one.found ≡ reached.found
  pub out : one.rules_out ≡ true → AreRuledOut (job_asked_at place asked) (asked_at place asked).rows

-- A list for each of these places, in their order, or it is past the limit: the job has more states there.
pub data AreLists (asked : Asked) (limit : ℕ) : List Place → List Listed → List Place → Type 0 where
  no_place : AreLists asked limit [] [] []
  within : (place : Place) (places : List Place) (one : Listed) (listed : List Listed) (past : List Place) → IsListedAt asked limit place one
      → AreLists asked limit places listed past → AreLists asked limit (place ∷ places) (one ∷ listed) past
  beyond : (place : Place) (places : List Place) (listed : List Listed) (past : List Place) → IsList (job_asked_at place asked) limit More
      → AreLists asked limit places listed past → AreLists asked limit (place ∷ places) listed (place ∷ past)
