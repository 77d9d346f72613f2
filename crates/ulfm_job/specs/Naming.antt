-- Steps on communicators that earlier steps make.
use Rattle.std.specs.Prelude.{◌==◌, ◌&&◌, ℕ, Bool, List, Option, Some, None, find, option_map}
use Rattle.ulfm_base.specs.declared.context.Context.{Context}
use Rattle.ulfm_job.specs.Job.{JobView}
use Rattle.ulfm_job.specs.declared.asked.Sending.{Sending}
use Rattle.ulfm_job.specs.declared.naming.Naming.{Naming}
use Rattle.ulfm_job.specs.declared.step.Step.{Step}
use Rattle.ulfm_job.specs.declared.step.Step.TheVariants.{Send, Recv, Wait, Probe, Mrecv, Cancel, Failed, Ack, Revoke, Dup, Shrink, Agree, Note, Stop}

-- a step on another communicator, where it is on one
abbrev pub on_comm : Context → Step → Step
on_comm c (Send to tag body comm) = Send to tag body c
on_comm c (Recv source tag room comm) = Recv source tag room c
on_comm c (Wait req) = Wait req
on_comm c (Probe source tag comm) = Probe source tag c
on_comm c (Mrecv req room) = Mrecv req room
on_comm c (Cancel req) = Cancel req
on_comm c (Failed comm) = Failed c
on_comm c (Ack count comm) = Ack count c
on_comm c (Revoke comm) = Revoke c
on_comm c (Dup comm again) = Dup c again
on_comm c (Shrink comm again) = Shrink c again
on_comm c (Agree flag comm) = Agree flag c
on_comm c (Note text) = Note text
on_comm c Stop = Stop

-- a step on its own communicator, or on another one
abbrev pub played_on : Option Context → Step → Step
played_on None asked = asked
played_on (Some c) asked = on_comm c asked

-- a send as a step
abbrev pub sending_in : Sending → Step
sending_in s = Send s.to s.tag s.body.now s.comm

-- the step, where it is a send
abbrev pub sending_of : Step → Option Step
sending_of (Send to tag body comm) = Some (Send to tag body comm)
sending_of _ = None

-- the naming is that of the step k of the rank r
abbrev pub is_naming_of : ℕ → ℕ → Naming → Bool
is_naming_of r k n = (n.rank == r) && (n.at == k)

-- the naming of the step k of the rank r, if it has one
abbrev pub naming_at : JobView → ℕ → ℕ → Option Naming
naming_at j r k = find (is_naming_of r k) j.namings

-- the name by which the step k of the rank r calls its communicator, if it does
abbrev pub called_at : JobView → ℕ → ℕ → Option (List ℕ)
called_at j r k = option_map (λ (n : Naming). n.name) (naming_at j r k)
