-- Calls as MPI has them.
use Rattle.std.specs.Prelude.{ℕ, List, ◌++◌, Option, Some, None, codes, if◌then◌else◌, ◌==◌}
use Rattle.std.specs.Fmt.{decimal}
use Rattle.ulfm_base.specs.declared.context.Context.{Context}
use Rattle.ulfm_base.specs.declared.tag.Tag.{Tag}
use Rattle.ulfm_job.specs.Words.{step_text}
use Rattle.ulfm_job.specs.declared.step.Step.{Step}
use Rattle.ulfm_job.specs.declared.step.Step.TheVariants.{Send, Recv, Wait, Probe, Mrecv, Cancel, Failed, Ack, Revoke, Dup, Shrink, Agree, Note, Stop}

-- a communicator: that of all ranks by its name, each other by the name that a step calls it by, or by its number
abbrev pub mpi_comm : Option (List ℕ) → Context → List ℕ
mpi_comm (Some name) comm = codes "comm " ++ name
mpi_comm None comm = if comm.number == 0 then codes "MPI_COMM_WORLD" else codes "comm " ++ decimal comm.number

-- a source, or the wildcard
abbrev pub mpi_source : Option ℕ → List ℕ
mpi_source None = codes "MPI_ANY_SOURCE"
mpi_source (Some rank) = codes "source " ++ decimal rank

-- a tag, or the wildcard
abbrev pub mpi_tag : Option Tag → List ℕ
mpi_tag None = codes "MPI_ANY_TAG"
mpi_tag (Some tag) = codes "tag " ++ decimal tag.number

-- the message that a call looks for
abbrev pub mpi_sought : Option (List ℕ) → Option ℕ → Option Tag → Context → List ℕ
mpi_sought called source tag comm = codes "(" ++ mpi_source source ++ codes ", " ++ mpi_tag tag ++ codes ", " ++ mpi_comm called comm ++ codes ")"

-- the communicator that a call names alone
abbrev pub mpi_on : Option (List ℕ) → Context → List ℕ
mpi_on called comm = codes "(" ++ mpi_comm called comm ++ codes ")"

-- the communicator that a call names, and a number by its name
abbrev pub mpi_numbered : Option (List ℕ) → Context → List ℕ → ℕ → List ℕ
mpi_numbered called comm key number = codes "(" ++ mpi_comm called comm ++ codes ", " ++ key ++ codes " " ++ decimal number ++ codes ")"

-- what an earlier step of the rank began: its request, or its message
abbrev pub mpi_of : List ℕ → ℕ → List ℕ
mpi_of begun req = codes "(" ++ begun ++ codes " of step " ++ decimal req ++ codes ")"

-- the call of MPI or ULFM that a step is; a note and a stop keep their words
abbrev pub mpi_call : Option (List ℕ) → Step → List ℕ
mpi_call called (Send to tag body comm) = codes "MPI_Send(dest " ++ decimal to ++ codes ", tag " ++ decimal tag.number ++ codes ", " ++ mpi_comm called comm ++ codes ")"
mpi_call called (Recv source tag room comm) = codes "MPI_Irecv" ++ mpi_sought called source tag comm
mpi_call called (Wait req) = codes "MPI_Wait" ++ mpi_of (codes "request") req
mpi_call called (Probe source tag comm) = codes "MPI_Mprobe" ++ mpi_sought called source tag comm
mpi_call called (Mrecv req room) = codes "MPI_Mrecv" ++ mpi_of (codes "message") req
mpi_call called (Cancel req) = codes "MPI_Cancel" ++ mpi_of (codes "request") req
mpi_call called (Failed comm) = codes "MPIX_Comm_get_failed" ++ mpi_on called comm
mpi_call called (Ack count comm) = codes "MPIX_Comm_ack_failed" ++ mpi_numbered called comm (codes "count") count
mpi_call called (Revoke comm) = codes "MPIX_Comm_revoke" ++ mpi_on called comm
mpi_call called (Dup comm again) = codes "MPI_Comm_dup" ++ mpi_on called comm
mpi_call called (Shrink comm again) = codes "MPIX_Comm_shrink" ++ mpi_on called comm
mpi_call called (Agree flag comm) = codes "MPIX_Comm_agree" ++ mpi_numbered called comm (codes "flag") flag
mpi_call called (Note text) = step_text called (Note text)
mpi_call called Stop = step_text called Stop
