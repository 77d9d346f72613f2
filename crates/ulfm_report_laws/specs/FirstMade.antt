-- What is made of a communicator 0 to 62 by a step that asks for no further one: what always was.
use Rattle.std.specs.Prelude.{◌≡◌, ℕ, ⊤, false, List, [], ◌∷◌, nat_lt}
use Rattle.ulfm_base.specs.Context.{dup_of, shrink_of}
use Rattle.ulfm_base.specs.declared.context.Context.{Context}
use Rattle.ulfm_base.specs.declared.error.CallError.TheVariants.{AlreadyMade, NoContext, Revoked}
use Rattle.ulfm_base.specs.Topic.{shrink_topic}
use Rattle.ulfm_log.specs.Communicators.{dups_of}
use Rattle.ulfm_log.specs.Facts.{is_revoked}
use Rattle.ulfm_log.specs.Proposal.{is_shrinking, shrinks}
use Rattle.ulfm_log.specs.State.{State, logged}
use Rattle.ulfm_log.specs.declared.entry.Entry.TheVariants.{Duplicated}
use Rattle.ulfm_rank.specs.Checks.{Check, Passes, comm_checks}
use Rattle.ulfm_job.specs.declared.step.Step.TheVariants.{Shrink}
use Rattle.ulfm_answer.specs.declared.answer.StepAnswer.{StepAnswer}
use Rattle.ulfm_answer.specs.declared.answer.StepAnswer.TheVariants.{Made, Refused, Shrunk}
use Rattle.ulfm_script.specs.Calls.{EntersBy, Refuses}

-- none is made of the communicator c where so many were made so before, and none past 30
abbrev pub first_checks : ℕ → ℕ → List Check
first_checks c count = (nat_lt 0 count, AlreadyMade) ∷ (nat_lt 30 c, NoContext) ∷ []

-- why a duplicate is refused
abbrev pub first_dup_checks : State → ℕ → List Check
first_dup_checks r c = comm_checks r c ((is_revoked r.log c, Revoked) ∷ first_checks c (dups_of r.log c))

-- why the entry into a shrink is refused
abbrev pub first_shrink_checks : State → Context → List Check
first_shrink_checks r context = comm_checks r context.number ((is_shrinking r.log context, AlreadyMade) ∷ first_checks context.number (shrinks r.log context.number))

-- the duplicate is the first one and has the number that jobs name, or it is refused
abbrev pub AnswersFirstDup : State → Context → StepAnswer → State → Type 0
AnswersFirstDup r comm (Made child) new = Passes (first_dup_checks r comm.number) × (child.context.number ≡ dup_of comm.number) × (new ≡ logged r (Duplicated comm 0))
AnswersFirstDup r comm (Refused e) new = Refuses (first_dup_checks r comm.number) e r new
AnswersFirstDup r comm _ new = ⊥

-- the entry into a shrink is refused
abbrev pub RefusesFirstShrink : State → Context → StepAnswer → State → Type 0
RefusesFirstShrink r comm (Refused e) new = Refuses (first_shrink_checks r comm) e r new
RefusesFirstShrink r comm _ new = ⊥

-- the shrink that is entered is the first one
abbrev pub EntersFirstShrink : State → Context → State → Type 0
EntersFirstShrink r comm new = Passes (first_shrink_checks r comm) × EntersBy r (Shrink comm false) (shrink_topic comm 0) new

-- the communicator that the adoption of a first shrink gives has the number that jobs name
abbrev pub GivesFirstShrink : Context → StepAnswer → Type 0
GivesFirstShrink comm (Shrunk child group me) = child.context.number ≡ shrink_of comm.number
GivesFirstShrink comm _ = ⊤
