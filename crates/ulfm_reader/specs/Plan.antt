-- What the text of a job asks for, without the form that a job has in memory.
use Rattle.std.specs.Prelude.{ℕ, Bool, List, Option, map, option_map}
use Rattle.ulfm_job.specs.declared.clause.Clause.{Clause}
use Rattle.ulfm_job.specs.declared.condition.Condition.{Condition}
use Rattle.ulfm_job.specs.declared.left_step.LeftStep.{LeftStep}
use Rattle.ulfm_job.specs.declared.naming.Naming.{Naming}
use Rattle.ulfm_job.specs.declared.op.Op.{Op}
use Rattle.ulfm_job.specs.declared.op.Op.TheVariants as op
use Rattle.ulfm_job.specs.declared.step.Step.{Step}
use Rattle.ulfm_job.specs.declared.step.Step.TheVariants.{Send, Recv, Wait, Probe, Mrecv, Cancel, Failed, Ack, Revoke, Dup, Shrink, Agree, Note, Stop}
use Rattle.ulfm_job.specs.Job.{JobView}

-- what a step asks for; communicators and tags are numbers, and a receive or a probe names a source and a tag or leaves them open
pub data Order : Type 0 where
  send : ℕ → ℕ → List ℕ → ℕ → Order
  recv : Option ℕ → Option ℕ → ℕ → ℕ → Order
  wait : ℕ → Order
  probe : Option ℕ → Option ℕ → ℕ → Order
  mrecv : ℕ → ℕ → Order
  cancel : ℕ → Order
  failed : ℕ → Order
  ack : ℕ → ℕ → Order
  revoke : ℕ → Order
  dup : ℕ → Bool → Order
  shrink : ℕ → Bool → Order
  agree : ℕ → ℕ → Order
  note : List ℕ → Order
  stop : Order

-- the op of an order
abbrev pub op_in : Order → Op
op_in (send to tag body comm) = op.Send
op_in (recv from tag room comm) = op.Recv
op_in (wait req) = op.Wait
op_in (probe from tag comm) = op.Probe
op_in (mrecv req room) = op.Mrecv
op_in (cancel req) = op.Cancel
op_in (failed comm) = op.Failed
op_in (ack count comm) = op.Ack
op_in (revoke comm) = op.Revoke
op_in (dup comm again) = op.Dup
op_in (shrink comm again) = op.Shrink
op_in (agree flag comm) = op.Agree
op_in (note text) = op.Note
op_in stop = op.Stop

-- one step of the file
pub record PlannedStep : Type 0 where
  pub rank : ℕ
  pub order : Order

-- ranks, room of an inbox, most polls of a step, the steps of each rank, what steps ask of answers, which may be given up early, and which
-- are on communicators that earlier ones make
pub record Plan : Type 0 where
  pub ranks : ℕ
  pub capacity : ℕ
  pub turns : ℕ
  pub scripts : List (List Order)
  pub conditions : List Condition
  pub expected : List Clause
  pub left : List LeftStep
  pub namings : List Naming

-- a step as the order that it keeps
abbrev pub order_of : Step → Order
order_of (Send to tag body comm) = send to tag.number body comm.number
order_of (Recv from tag room comm) = recv from (option_map (λ t. t.number) tag) room comm.number
order_of (Wait req) = wait req
order_of (Probe from tag comm) = probe from (option_map (λ t. t.number) tag) comm.number
order_of (Mrecv req room) = mrecv req room
order_of (Cancel req) = cancel req
order_of (Failed comm) = failed comm.number
order_of (Ack count comm) = ack count comm.number
order_of (Revoke comm) = revoke comm.number
order_of (Dup comm again) = dup comm.number again
order_of (Shrink comm again) = shrink comm.number again
order_of (Agree flag comm) = agree flag comm.number
order_of (Note text) = note text
order_of Stop = stop

-- the plan of a job
abbrev pub plan_of : JobView → Plan
plan_of j = record { ranks = j.ranks; capacity = j.capacity; turns = j.turns; scripts = map (map order_of) j.scripts; conditions = j.conditions; expected = j.expected; left = j.left; namings = j.namings }
