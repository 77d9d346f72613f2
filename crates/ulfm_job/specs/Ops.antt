-- The ops of steps: their names, their keys, and how their answers begin.
use Rattle.std.specs.Prelude.{ℕ, Bool, true, false, List, [], ◌∷◌, Option, Some, None, codes, if◌then◌else◌}
use Rattle.std.specs.Str.{bytes_eq}
use Rattle.ulfm_job.specs.declared.op.Op.{Op}
use Rattle.ulfm_job.specs.declared.op.Op.TheVariants.{Send, Recv, Wait, Probe, Mrecv, Cancel, Failed, Ack, Revoke, Dup, Shrink, Agree, Note, Stop}
use Rattle.ulfm_job.specs.declared.step.Step.{Step}
use Rattle.ulfm_job.specs.declared.step.Step.TheVariants as step

-- the name of an op in a job
abbrev pub op_name : Op → List ℕ
op_name Send = codes "send"
op_name Recv = codes "recv"
op_name Wait = codes "wait"
op_name Probe = codes "probe"
op_name Mrecv = codes "mrecv"
op_name Cancel = codes "cancel"
op_name Failed = codes "failed"
op_name Ack = codes "ack"
op_name Revoke = codes "revoke"
op_name Dup = codes "dup"
op_name Shrink = codes "shrink"
op_name Agree = codes "agree"
op_name Note = codes "note"
op_name Stop = codes "stop"

-- the op of this name
abbrev pub op_named : List ℕ → Option Op
op_named name =
    if bytes_eq name (codes "send") then Some Send
    else if bytes_eq name (codes "recv") then Some Recv
    else if bytes_eq name (codes "wait") then Some Wait
    else if bytes_eq name (codes "probe") then Some Probe
    else if bytes_eq name (codes "mrecv") then Some Mrecv
    else if bytes_eq name (codes "cancel") then Some Cancel
    else if bytes_eq name (codes "failed") then Some Failed
    else if bytes_eq name (codes "ack") then Some Ack
    else if bytes_eq name (codes "revoke") then Some Revoke
    else if bytes_eq name (codes "dup") then Some Dup
    else if bytes_eq name (codes "shrink") then Some Shrink
    else if bytes_eq name (codes "agree") then Some Agree
    else if bytes_eq name (codes "note") then Some Note
    else if bytes_eq name (codes "stop") then Some Stop
    else None

-- the keys of any step, and more
abbrev pub step_keys : List (List ℕ) → List (List ℕ)
step_keys more = codes "op" ∷ codes "rank" ∷ codes "name" ∷ codes "if" ∷ codes "expect" ∷ more

-- the keys that a step of this op may have
abbrev pub op_keys : Op → List (List ℕ)
op_keys Send = step_keys (codes "to" ∷ codes "tag" ∷ codes "body" ∷ codes "comm" ∷ [])
op_keys Recv = step_keys (codes "from" ∷ codes "tag" ∷ codes "room" ∷ codes "comm" ∷ [])
op_keys Wait = step_keys (codes "req" ∷ [])
op_keys Probe = step_keys (codes "from" ∷ codes "tag" ∷ codes "comm" ∷ [])
op_keys Mrecv = step_keys (codes "req" ∷ codes "room" ∷ [])
op_keys Cancel = step_keys (codes "req" ∷ [])
op_keys Failed = step_keys (codes "comm" ∷ [])
op_keys Ack = step_keys (codes "count" ∷ codes "comm" ∷ [])
op_keys Revoke = step_keys (codes "comm" ∷ [])
op_keys Dup = step_keys (codes "comm" ∷ codes "again" ∷ [])
op_keys Shrink = step_keys (codes "comm" ∷ codes "again" ∷ [])
op_keys Agree = step_keys (codes "flag" ∷ codes "comm" ∷ [])
op_keys Note = step_keys (codes "text" ∷ [])
op_keys Stop = step_keys []

-- the op of a step
abbrev pub op_of : Step → Op
op_of (step.Send to tag body comm) = Send
op_of (step.Recv source tag room comm) = Recv
op_of (step.Wait req) = Wait
op_of (step.Probe source tag comm) = Probe
op_of (step.Mrecv req room) = Mrecv
op_of (step.Cancel req) = Cancel
op_of (step.Failed comm) = Failed
op_of (step.Ack count comm) = Ack
op_of (step.Revoke comm) = Revoke
op_of (step.Dup comm again) = Dup
op_of (step.Shrink comm again) = Shrink
op_of (step.Agree flag comm) = Agree
op_of (step.Note text) = Note
op_of step.Stop = Stop

-- how an answer of an op begins that isn't refused, where no receive is told over, and no step left open
abbrev pub op_answers : Op → List (List ℕ)
op_answers Send = codes "sent" ∷ []
op_answers Recv = codes "posted" ∷ []
op_answers Wait = codes "done from" ∷ codes "pending" ∷ []
op_answers Probe = codes "found from" ∷ []
op_answers Mrecv = codes "done from" ∷ []
op_answers Cancel = codes "done from" ∷ codes "cancelled" ∷ []
op_answers Failed = codes "ranks" ∷ []
op_answers Ack = codes "acked" ∷ []
op_answers Revoke = codes "revoked" ∷ []
op_answers Dup = codes "comm" ∷ []
op_answers Shrink = codes "comm" ∷ []
op_answers Agree = codes "agreed" ∷ []
op_answers Note = codes "noted" ∷ []
op_answers Stop = codes "stopped" ∷ []

-- how the answers begin with which a step of this op goes well
abbrev pub good_answers : Op → List (List ℕ)
good_answers Send = codes "sent" ∷ []
good_answers Recv = codes "posted" ∷ []
good_answers Wait = codes "done" ∷ []
good_answers Probe = codes "found" ∷ []
good_answers Mrecv = codes "done" ∷ []
good_answers Cancel = codes "cancelled" ∷ codes "done" ∷ []
good_answers Failed = codes "ranks" ∷ []
good_answers Ack = codes "acked" ∷ []
good_answers Revoke = codes "revoked" ∷ []
good_answers Dup = codes "comm" ∷ []
good_answers Shrink = codes "comm" ∷ []
good_answers Agree = codes "agreed" ∷ []
good_answers Note = codes "noted" ∷ []
good_answers Stop = codes "stopped" ∷ []

-- a step of this op may be left open, and told `unfinished`
abbrev pub may_stay_open : Op → Bool
may_stay_open Wait = true
may_stay_open Probe = true
may_stay_open Shrink = true
may_stay_open Agree = true
may_stay_open _ = false

-- no step of this op is refused
abbrev pub is_never_refused : Op → Bool
is_never_refused Note = true
is_never_refused Stop = true
is_never_refused _ = false
