-- What the threads of a job begin with, and what they give back.
use Rattle.std.specs.Prelude.{◌≡◌, ℕ, List, map, length, Option, Some}
use Rattle.std.specs.declared.thread.PromisedHandle.{PromisedHandle}
use Rattle.ulfm_base.specs.declared.item.Item.{Item}
use Rattle.ulfm_carrier.specs.Family.{IsFresh}
use Rattle.ulfm_base.specs.Lists.{at}
use Rattle.ulfm_job.specs.Job.{JobView}
use Rattle.ulfm_answer.specs.Report.{Report}
use Rattle.ulfm_run.specs.declared.worker.Ran.{Ran}
use Rattle.ulfm_run.specs.declared.threads.Begun.{Begun}
use Rattle.ulfm_script.specs.Deciding.{Known}
use Rattle.ulfm_script.specs.Answered.{AnswersFollow}
use Rattle.ulfm_run.specs.inside.Played.{IsPlayed}

-- the end with which a thread began
abbrev pub begun_end : {E D : Type 0} → PromisedHandle (Ran E D) (Begun E D) → E
begun_end h = h.promise.end.value

-- the decider with which it began
abbrev pub begun_decider : {E D : Type 0} → PromisedHandle (Ran E D) (Begun E D) → D
begun_decider h = h.promise.decider.value

abbrev pub begun_ends : {E D : Type 0} → List (PromisedHandle (Ran E D) (Begun E D)) → List E
begun_ends hs = map begun_end hs

abbrev pub begun_deciders : {E D : Type 0} → List (PromisedHandle (Ran E D) (Begun E D)) → List D
begun_deciders hs = map begun_decider hs

-- the thread plays a rank of this job
abbrev pub IsOfJob : {E D : Type 0} → JobView → PromisedHandle (Ran E D) (Begun E D) → Type 0
IsOfJob job h = h.promise.job.value ≡ job

-- what a rank's thread reports
abbrev pub report_in : {E D : Type 0} → Ran E D → Report
report_in r = r.report

-- the end that it gives back
abbrev pub end_in : {E D : Type 0} → Ran E D → E
end_in r = r.end

-- the decider that it gives back
abbrev pub decider_in : {E D : Type 0} → Ran E D → D
decider_in r = r.decider

-- what a thread gave back: its rank's answers are right, where a decision is the one that its decider knows
abbrev pub GaveAnswers : {E D : Type 0} → (D → Known) → Ran E D → Type 0
GaveAnswers known r = AnswersFollow (known r.decider) r.report

-- these are ends of so many with which nothing was done yet
abbrev pub EachFresh : {E : Type 0} → (E → ℕ) → (E → ℕ → List Item) → (E → ℕ → List Item) → (E → Type 0) → ℕ → List E → Type 0
EachFresh {E} count pushed taken ready n ends = (k : ℕ) (e : E) → at ends k e → IsFresh count pushed taken ready n e

-- each rank was played by the end at its place
pub record WerePlayed {E D N : Type 0} (name : E → N) (place count : E → ℕ) (pushed taken : E → ℕ → List Item) (ready : E → Type 0) (board : D → Option (List ℕ)) (job : JobView) (ends : List E) (deciders : List D) (ran : List (Ran E D)) : Type 0 where
  pub as_many : length ran ≡ length ends
  pub played : (k : ℕ) (e : E) (r : Ran E D) → at ends k e → at ran k r → IsPlayed name place count pushed taken ready job e r.report r.end
  pub seated : (k : ℕ) (d : D) (r : Ran E D) → at deciders k d → at ran k r → board r.decider ≡ board d

-- these are the names of one board
abbrev pub NameOneBoard : List (Option (List ℕ)) → Type 0
NameOneBoard boards = (names : List ℕ) × ((k : ℕ) (board : Option (List ℕ)) → at boards k board → board ≡ Some names)
