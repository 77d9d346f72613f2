-- The lists of places as one list.
use Rattle.std.specs.Prelude.{ℕ, ◌==◌, List, [], Some, length, map, not, sum_by}
use Rattle.ulfm_answer.specs.Told.{code_of}
use Rattle.ulfm_answer.specs.declared.told_answer.ToldAnswer.{ToldAnswer}
use Rattle.ulfm_outcomes_list.specs.Listed.{ListView, ListedView, OutcomeView, OutcomesView, StepView}
use Rattle.ulfm_outcomes_list.specs.declared.judgement.Judgement.{Judgement}
use Rattle.ulfm_job.specs.Job.{JobView}
use Rattle.ulfm_outcomes_list.specs.Union.{answers_of, places_with, some_never_ends}
use Rattle.ulfm_outcomes_list.specs.declared.place_list.Listed.{Listed}

-- an answer of the step k of the rank r, with its places
abbrev pub placed : JobView → List Listed → ℕ → ℕ → ToldAnswer → OutcomeView
placed j listed r k told = record { told = told; places = places_with j listed r k (code_of told) }

-- what the lists tell of the step
abbrev pub told_of : JobView → List Listed → ℕ → ℕ → OutcomesView
told_of j listed r k = record {
  answers = map (placed j listed r k) (answers_of j listed r k);
  never_ends = not (length (places_with j listed r k []) == 0);
  never_ends_at = places_with j listed r k [];
}

-- a step, and what they tell of it
abbrev pub listed_at : JobView → List Listed → StepView → ListedView
listed_at j listed s = record { at = s; told = told_of j listed s.rank s.number }

-- how many states all places have together
abbrev pub states_of : List Listed → ℕ
states_of listed = sum_by (λ (one : Listed). one.states) listed

-- the list of these steps of a job, where that of all comes to this
abbrev pub list_at : JobView → List StepView → Judgement → List Listed → ListView
list_at j steps judgement listed = record {
  steps = map (listed_at j listed) steps;
  states = states_of listed;
  places = Some (length listed);
  never_ends = some_never_ends listed;
  judgement = judgement;
}
