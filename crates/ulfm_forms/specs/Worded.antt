-- Calls and answers in plain words, or in MPI's.
use Rattle.std.specs.Prelude.{ℕ, List}
use Rattle.ulfm_answer.specs.Trace.{told_text as answer_told}
use Rattle.ulfm_answer.specs.Told.{told_of}
use Rattle.ulfm_answer.specs.declared.answer.StepAnswer.{StepAnswer}
use Rattle.ulfm_answer.specs.declared.told_answer.ToldAnswer.{ToldAnswer}
use Rattle.ulfm_job.specs.Words.{ToldStep, told_text}
use Rattle.ulfm_forms.specs.MpiAnswer.{mpi_answer}
use Rattle.ulfm_forms.specs.MpiCall.{mpi_call}
use Rattle.ulfm_forms.specs.declared.wording.Wording.{Wording}
use Rattle.ulfm_forms.specs.declared.wording.Wording.TheVariants.{Plain, Mpi}

-- a step in these words
abbrev pub call_in : Wording → ToldStep → List ℕ
call_in Plain told = told_text told
call_in Mpi told = mpi_call told.called told.step

-- what is told of an answer in these words
abbrev pub told_in : Wording → ToldAnswer → List ℕ
told_in Plain told = answer_told told
told_in Mpi told = mpi_answer told

-- an answer in these words
abbrev pub answer_in : Wording → StepAnswer → List ℕ
answer_in wording answer = told_in wording (told_of answer)
