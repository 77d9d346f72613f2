-- The words in which steps are printed.
use Rattle.std.specs.Prelude.{ℕ, Bool, true, false, List, [], ◌++◌, Option, Some, None, codes, option_map, slice_get}
use Rattle.std.specs.Fmt.{decimal}
use Rattle.ulfm_base.specs.declared.context.Context.{Context}
use Rattle.ulfm_base.specs.declared.tag.Tag.{Tag}
use Rattle.ulfm_job.specs.Job.{JobView, script_at}
use Rattle.ulfm_job.specs.Naming.{called_at}
use Rattle.ulfm_job.specs.declared.step.Step.{Step}
use Rattle.ulfm_job.specs.declared.step.Step.TheVariants.{Send, Recv, Wait, Probe, Mrecv, Cancel, Failed, Ack, Revoke, Dup, Shrink, Agree, Note, Stop}
use Rattle.ulfm_job.specs.declared.words.StepWords.{StepWords}

-- a step, and the name by which it calls its communicator, where it does
pub record ToldStep : Type 0 where
  pub step : Step
  pub called : Option (List ℕ)

-- a step as it is told of
abbrev pub told_view : StepWords → ToldStep
told_view t = record { step = t.step.now; called = option_map (λ name. name.now) t.called }

-- the step k of the rank r of a job as it is told of, if the job has it
abbrev pub told_at : JobView → ℕ → ℕ → Option ToldStep
told_at j r k = option_map (λ (step : Step). record { step = step; called = called_at j r k }) (slice_get (script_at j r) k)

-- a source, or `any` where it is left open
abbrev pub source_text : Option ℕ → List ℕ
source_text None = codes "any"
source_text (Some rank) = decimal rank

-- a tag, or `any` where it is left open
abbrev pub tag_text : Option Tag → List ℕ
tag_text None = codes "any"
tag_text (Some tag) = decimal tag.number

-- a communicator: by the name that a step calls it by, or by its number
abbrev pub comm_text : Option (List ℕ) → Context → List ℕ
comm_text None comm = decimal comm.number
comm_text (Some name) comm = name

-- the words of a send
abbrev pub send_text : Option (List ℕ) → ℕ → Tag → Context → List ℕ
send_text called to tag comm = codes "send " ++ decimal to ++ codes " tag " ++ decimal tag.number ++ codes " comm " ++ comm_text called comm

-- the word of a step that asks for a further communicator, or nothing
abbrev pub again_text : Bool → List ℕ
again_text true = codes " again"
again_text false = []

-- the words of a step, which may call its communicator by a name
abbrev pub step_text : Option (List ℕ) → Step → List ℕ
step_text called (Send to tag body comm) = send_text called to tag comm
step_text called (Recv source tag room comm) = codes "recv " ++ source_text source ++ codes " tag " ++ tag_text tag ++ codes " comm " ++ comm_text called comm
step_text called (Wait req) = codes "wait " ++ decimal req
step_text called (Probe source tag comm) = codes "probe " ++ source_text source ++ codes " tag " ++ tag_text tag ++ codes " comm " ++ comm_text called comm
step_text called (Mrecv req room) = codes "mrecv " ++ decimal req
step_text called (Cancel req) = codes "cancel " ++ decimal req
step_text called (Failed comm) = codes "failed comm " ++ comm_text called comm
step_text called (Ack count comm) = codes "ack " ++ decimal count ++ codes " comm " ++ comm_text called comm
step_text called (Revoke comm) = codes "revoke comm " ++ comm_text called comm
step_text called (Dup comm again) = codes "dup comm " ++ comm_text called comm ++ again_text again
step_text called (Shrink comm again) = codes "shrink comm " ++ comm_text called comm ++ again_text again
step_text called (Agree flag comm) = codes "agree " ++ decimal flag ++ codes " comm " ++ comm_text called comm
step_text called (Note text) = codes "note " ++ text
step_text called Stop = codes "stop"

-- the words of a step as it is told of
abbrev pub told_text : ToldStep → List ℕ
told_text t = step_text t.called t.step
