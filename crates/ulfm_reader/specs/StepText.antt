-- The step of a table, for each op, by cases in the order of the checks: keys and their kinds, unknown keys, ranges.
use Rattle.std.specs.Prelude.{ℕ, pos, ◌-◌, Bool, false, List, Option, Some, None, Result, Ok, Err, unwrap_or, codes}
use Rattle.ulfm_job.specs.Ops.{op_keys, op_named}
use Rattle.ulfm_job.specs.declared.op.Op.{Op}
use Rattle.ulfm_job.specs.declared.op.Op.TheVariants as op
use Rattle.toml.specs.Data.{Members}
use Rattle.ulfm_job.specs.declared.fault.Fault.{Fault}
use Rattle.ulfm_job.specs.declared.fault.Fault.TheVariants.{UnknownOp}
use Rattle.ulfm_reader.specs.Keys.{◌>>=◌, label_in, required_number, optional_number, optional_comm, optional_bool, required_text, only_keys, in_range, in_range_if_some}
use Rattle.ulfm_reader.specs.declared.name.Name.{Name}
use Rattle.ulfm_reader.specs.Reacting.{required_reference, req_in}
use Rattle.ulfm_reader.specs.Plan.{Order, PlannedStep, send, recv, wait, probe, mrecv, cancel, failed, ack, revoke, dup, shrink, agree, note, stop}

-- the step of a `send`
unfoldable pub send_step : ℕ → Members → Result PlannedStep Fault
send_step ranks ms = do
  rank_key ← required_number (codes "rank") ms
  to_key ← required_number (codes "to") ms
  tag_key ← required_number (codes "tag") ms
  body ← required_text (codes "body") ms
  comm_key ← optional_comm ms
  keys ← only_keys (op_keys op.Send) ms
  rank ← in_range 0 (ranks - 1) rank_key
  to ← in_range 0 7 to_key
  tag ← in_range 0 32767 tag_key
  comm ← in_range 0 62 (unwrap_or comm_key (pos 0))
  Ok (record { rank = rank; order = send to tag body comm })

-- the step of a `recv`
unfoldable pub recv_step : ℕ → Members → Result PlannedStep Fault
recv_step ranks ms = do
  rank_key ← required_number (codes "rank") ms
  from_key ← optional_number (codes "from") ms
  tag_key ← optional_number (codes "tag") ms
  room_key ← optional_number (codes "room") ms
  comm_key ← optional_comm ms
  keys ← only_keys (op_keys op.Recv) ms
  rank ← in_range 0 (ranks - 1) rank_key
  from ← in_range_if_some 7 from_key
  tag ← in_range_if_some 32767 tag_key
  room ← in_range 0 1024 (unwrap_or room_key (pos 1024))
  comm ← in_range 0 62 (unwrap_or comm_key (pos 0))
  Ok (record { rank = rank; order = recv from tag room comm })

-- the step of an op that names an earlier step of its rank, by its number or its name, and nothing else
unfoldable pub step_on_req : Op → (ℕ → Order) → ℕ → List Name → Members → Result PlannedStep Fault
step_on_req op order_on ranks names ms = do
  rank_key ← required_number (codes "rank") ms
  req_key ← required_reference (codes "req") ms
  keys ← only_keys (op_keys op) ms
  rank ← in_range 0 (ranks - 1) rank_key
  req ← req_in names rank req_key
  Ok (record { rank = rank; order = order_on req })

-- the step of a `probe`
unfoldable pub probe_step : ℕ → Members → Result PlannedStep Fault
probe_step ranks ms = do
  rank_key ← required_number (codes "rank") ms
  from_key ← optional_number (codes "from") ms
  tag_key ← optional_number (codes "tag") ms
  comm_key ← optional_comm ms
  keys ← only_keys (op_keys op.Probe) ms
  rank ← in_range 0 (ranks - 1) rank_key
  from ← in_range_if_some 7 from_key
  tag ← in_range_if_some 32767 tag_key
  comm ← in_range 0 62 (unwrap_or comm_key (pos 0))
  Ok (record { rank = rank; order = probe from tag comm })

-- the step of an `mrecv`
unfoldable pub mrecv_step : ℕ → List Name → Members → Result PlannedStep Fault
mrecv_step ranks names ms = do
  rank_key ← required_number (codes "rank") ms
  req_key ← required_reference (codes "req") ms
  room_key ← optional_number (codes "room") ms
  keys ← only_keys (op_keys op.Mrecv) ms
  rank ← in_range 0 (ranks - 1) rank_key
  req ← req_in names rank req_key
  room ← in_range 0 1024 (unwrap_or room_key (pos 1024))
  Ok (record { rank = rank; order = mrecv req room })

-- the step of an op that names a communicator, the world's where it is left out, and nothing else
unfoldable pub step_on_comm : Op → (ℕ → Order) → ℕ → Members → Result PlannedStep Fault
step_on_comm op order_on ranks ms = do
  rank_key ← required_number (codes "rank") ms
  comm_key ← optional_comm ms
  keys ← only_keys (op_keys op) ms
  rank ← in_range 0 (ranks - 1) rank_key
  comm ← in_range 0 62 (unwrap_or comm_key (pos 0))
  Ok (record { rank = rank; order = order_on comm })

-- the step of an op that makes a communicator of one that it names, or of the world: a further one where it says `again`
unfoldable pub making_step : Op → (ℕ → Bool → Order) → ℕ → Members → Result PlannedStep Fault
making_step op order_on ranks ms = do
  rank_key ← required_number (codes "rank") ms
  comm_key ← optional_comm ms
  again_key ← optional_bool (codes "again") ms
  keys ← only_keys (op_keys op) ms
  rank ← in_range 0 (ranks - 1) rank_key
  comm ← in_range 0 62 (unwrap_or comm_key (pos 0))
  Ok (record { rank = rank; order = order_on comm (unwrap_or again_key false) })

-- the step of an `ack`
unfoldable pub ack_step : ℕ → Members → Result PlannedStep Fault
ack_step ranks ms = do
  rank_key ← required_number (codes "rank") ms
  count_key ← required_number (codes "count") ms
  comm_key ← optional_comm ms
  keys ← only_keys (op_keys op.Ack) ms
  rank ← in_range 0 (ranks - 1) rank_key
  count ← in_range 0 8 count_key
  comm ← in_range 0 62 (unwrap_or comm_key (pos 0))
  Ok (record { rank = rank; order = ack count comm })

-- the step of an `agree`
unfoldable pub agree_step : ℕ → Members → Result PlannedStep Fault
agree_step ranks ms = do
  rank_key ← required_number (codes "rank") ms
  flag_key ← required_number (codes "flag") ms
  comm_key ← optional_comm ms
  keys ← only_keys (op_keys op.Agree) ms
  rank ← in_range 0 (ranks - 1) rank_key
  flag ← in_range 0 4294967295 flag_key
  comm ← in_range 0 62 (unwrap_or comm_key (pos 0))
  Ok (record { rank = rank; order = agree flag comm })

-- the step of a `note`
unfoldable pub note_step : ℕ → Members → Result PlannedStep Fault
note_step ranks ms = do
  rank_key ← required_number (codes "rank") ms
  text_key ← required_text (codes "text") ms
  keys ← only_keys (op_keys op.Note) ms
  rank ← in_range 0 (ranks - 1) rank_key
  text ← label_in text_key
  Ok (record { rank = rank; order = note text })

-- the step of a `stop`
unfoldable pub stop_step : ℕ → Members → Result PlannedStep Fault
stop_step ranks ms = do
  rank_key ← required_number (codes "rank") ms
  keys ← only_keys (op_keys op.Stop) ms
  rank ← in_range 0 (ranks - 1) rank_key
  Ok (record { rank = rank; order = stop })

-- the op, if it is one
abbrev pub known : Option Op → Result Op Fault
known None = Err UnknownOp
known (Some op) = Ok op

-- the step of an op
unfoldable pub step_of_op : ℕ → List Name → Op → Members → Result PlannedStep Fault
step_of_op ranks names op.Send ms = send_step ranks ms
step_of_op ranks names op.Recv ms = recv_step ranks ms
step_of_op ranks names op.Wait ms = step_on_req op.Wait wait ranks names ms
step_of_op ranks names op.Probe ms = probe_step ranks ms
step_of_op ranks names op.Mrecv ms = mrecv_step ranks names ms
step_of_op ranks names op.Cancel ms = step_on_req op.Cancel cancel ranks names ms
step_of_op ranks names op.Failed ms = step_on_comm op.Failed failed ranks ms
step_of_op ranks names op.Ack ms = ack_step ranks ms
step_of_op ranks names op.Revoke ms = step_on_comm op.Revoke revoke ranks ms
step_of_op ranks names op.Dup ms = making_step op.Dup dup ranks ms
step_of_op ranks names op.Shrink ms = making_step op.Shrink shrink ranks ms
step_of_op ranks names op.Agree ms = agree_step ranks ms
step_of_op ranks names op.Note ms = note_step ranks ms
step_of_op ranks names op.Stop ms = stop_step ranks ms

-- the step of a table; its op comes before its other keys
unfoldable pub step_of : ℕ → List Name → Members → Result PlannedStep Fault
step_of ranks names ms = required_text (codes "op") ms >>= (λ name. known (op_named name) >>= (λ op. step_of_op ranks names op ms))
