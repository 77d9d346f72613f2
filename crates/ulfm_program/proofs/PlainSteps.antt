-- A step of each op that is read names one rank, and has no key of a block.
use Rattle.std.proofs.Common.{◌≡◌, ℕ, Bool, List, Ok, refl}
use Rattle.std.specs.Prelude.{codes}
use Rattle.toml.specs.Data.{Members, get_member}
use Rattle.ulfm_job.specs.Ops.{op_keys, op_named}
use Rattle.ulfm_job.specs.declared.op.Op.{Op}
use Rattle.ulfm_job.specs.declared.op.Op.TheVariants as op
use Rattle.ulfm_reader.specs.Keys.{only_keys, optional_bool, optional_comm, optional_number, required_number, required_text}
use Rattle.ulfm_reader.specs.Plan.{Order, PlannedStep}
use Rattle.ulfm_reader.specs.Reacting.{required_reference}
use Rattle.ulfm_reader.specs.StepText.{ack_step, agree_step, known, making_step, mrecv_step, note_step, probe_step, recv_step, send_step, step_of, step_of_op, step_on_comm, step_on_req, stop_step}
use Rattle.ulfm_reader.specs.declared.name.Name.{Name}
use Rattle.ulfm_program.proofs.Plain.{HasNoSuch, IsPlain, gone_text, no_text, number_no_text, ok_first, other_plain, plain}

send_plain : (ranks : ℕ) (ms : Members) (s : PlannedStep) → send_step ranks ms ≡ Ok s → IsPlain ms
unfolding send_step
send_plain ranks ms s is =
    let rank = ok_first (required_number (codes "rank") ms) _ s is in
    let to = ok_first (required_number (codes "to") ms) _ s rank.2 in
    let tag = ok_first (required_number (codes "tag") ms) _ s to.2 in
    let body = ok_first (required_text (codes "body") ms) _ s tag.2 in
    let comm = ok_first (optional_comm ms) _ s body.2 in
    let keys = ok_first (only_keys (op_keys op.Send) ms) _ s comm.2 in
    plain ms rank.0 rank.1 (op_keys op.Send) keys.0 keys.1 (number_no_text (get_member (codes "to") ms) to.0 to.1)
    (gone_text ms rank.0 rank.1 (op_keys op.Send) keys.0 keys.1 (codes "from") refl) refl refl

recv_plain : (ranks : ℕ) (ms : Members) (s : PlannedStep) → recv_step ranks ms ≡ Ok s → IsPlain ms
unfolding recv_step
recv_plain ranks ms s is =
    let rank = ok_first (required_number (codes "rank") ms) _ s is in
    let from = ok_first (optional_number (codes "from") ms) _ s rank.2 in
    let tag = ok_first (optional_number (codes "tag") ms) _ s from.2 in
    let room = ok_first (optional_number (codes "room") ms) _ s tag.2 in
    let comm = ok_first (optional_comm ms) _ s room.2 in
    let keys = ok_first (only_keys (op_keys op.Recv) ms) _ s comm.2 in
    plain ms rank.0 rank.1 (op_keys op.Recv) keys.0 keys.1 (gone_text ms rank.0 rank.1 (op_keys op.Recv) keys.0 keys.1 (codes "to") refl)
    (no_text (get_member (codes "from") ms) from.0 from.1) refl refl

probe_plain : (ranks : ℕ) (ms : Members) (s : PlannedStep) → probe_step ranks ms ≡ Ok s → IsPlain ms
unfolding probe_step
probe_plain ranks ms s is =
    let rank = ok_first (required_number (codes "rank") ms) _ s is in
    let from = ok_first (optional_number (codes "from") ms) _ s rank.2 in
    let tag = ok_first (optional_number (codes "tag") ms) _ s from.2 in
    let comm = ok_first (optional_comm ms) _ s tag.2 in
    let keys = ok_first (only_keys (op_keys op.Probe) ms) _ s comm.2 in
    plain ms rank.0 rank.1 (op_keys op.Probe) keys.0 keys.1 (gone_text ms rank.0 rank.1 (op_keys op.Probe) keys.0 keys.1 (codes "to") refl)
    (no_text (get_member (codes "from") ms) from.0 from.1) refl refl

req_plain : (o : Op) (order_on : ℕ → Order) (ranks : ℕ) (names : List Name) (ms : Members) (s : PlannedStep) → HasNoSuch o → step_on_req o order_on ranks names ms ≡ Ok s → IsPlain ms
unfolding step_on_req
req_plain o order_on ranks names ms s lacks is =
    let rank = ok_first (required_number (codes "rank") ms) _ s is in
    let req = ok_first (required_reference (codes "req") ms) _ s rank.2 in
    let keys = ok_first (only_keys (op_keys o) ms) _ s req.2 in
    other_plain ms rank.0 (op_keys o) keys.0 rank.1 keys.1 lacks.0 lacks.1 lacks.2 lacks.3

comm_plain : (o : Op) (order_on : ℕ → Order) (ranks : ℕ) (ms : Members) (s : PlannedStep) → HasNoSuch o → step_on_comm o order_on ranks ms ≡ Ok s → IsPlain ms
unfolding step_on_comm
comm_plain o order_on ranks ms s lacks is =
    let rank = ok_first (required_number (codes "rank") ms) _ s is in
    let comm = ok_first (optional_comm ms) _ s rank.2 in
    let keys = ok_first (only_keys (op_keys o) ms) _ s comm.2 in
    other_plain ms rank.0 (op_keys o) keys.0 rank.1 keys.1 lacks.0 lacks.1 lacks.2 lacks.3

making_plain : (o : Op) (order_on : ℕ → Bool → Order) (ranks : ℕ) (ms : Members) (s : PlannedStep) → HasNoSuch o → making_step o order_on ranks ms ≡ Ok s → IsPlain ms
unfolding making_step
making_plain o order_on ranks ms s lacks is =
    let rank = ok_first (required_number (codes "rank") ms) _ s is in
    let comm = ok_first (optional_comm ms) _ s rank.2 in
    let again = ok_first (optional_bool (codes "again") ms) _ s comm.2 in
    let keys = ok_first (only_keys (op_keys o) ms) _ s again.2 in
    other_plain ms rank.0 (op_keys o) keys.0 rank.1 keys.1 lacks.0 lacks.1 lacks.2 lacks.3

mrecv_plain : (ranks : ℕ) (names : List Name) (ms : Members) (s : PlannedStep) → mrecv_step ranks names ms ≡ Ok s → IsPlain ms
unfolding mrecv_step
mrecv_plain ranks names ms s is =
    let rank = ok_first (required_number (codes "rank") ms) _ s is in
    let req = ok_first (required_reference (codes "req") ms) _ s rank.2 in
    let room = ok_first (optional_number (codes "room") ms) _ s req.2 in
    let keys = ok_first (only_keys (op_keys op.Mrecv) ms) _ s room.2 in
    other_plain ms rank.0 (op_keys op.Mrecv) keys.0 rank.1 keys.1 refl refl refl refl

ack_plain : (ranks : ℕ) (ms : Members) (s : PlannedStep) → ack_step ranks ms ≡ Ok s → IsPlain ms
unfolding ack_step
ack_plain ranks ms s is =
    let rank = ok_first (required_number (codes "rank") ms) _ s is in
    let count = ok_first (required_number (codes "count") ms) _ s rank.2 in
    let comm = ok_first (optional_comm ms) _ s count.2 in
    let keys = ok_first (only_keys (op_keys op.Ack) ms) _ s comm.2 in
    other_plain ms rank.0 (op_keys op.Ack) keys.0 rank.1 keys.1 refl refl refl refl

agree_plain : (ranks : ℕ) (ms : Members) (s : PlannedStep) → agree_step ranks ms ≡ Ok s → IsPlain ms
unfolding agree_step
agree_plain ranks ms s is =
    let rank = ok_first (required_number (codes "rank") ms) _ s is in
    let flag = ok_first (required_number (codes "flag") ms) _ s rank.2 in
    let comm = ok_first (optional_comm ms) _ s flag.2 in
    let keys = ok_first (only_keys (op_keys op.Agree) ms) _ s comm.2 in
    other_plain ms rank.0 (op_keys op.Agree) keys.0 rank.1 keys.1 refl refl refl refl

note_plain : (ranks : ℕ) (ms : Members) (s : PlannedStep) → note_step ranks ms ≡ Ok s → IsPlain ms
unfolding note_step
note_plain ranks ms s is =
    let rank = ok_first (required_number (codes "rank") ms) _ s is in
    let text = ok_first (required_text (codes "text") ms) _ s rank.2 in
    let keys = ok_first (only_keys (op_keys op.Note) ms) _ s text.2 in
    other_plain ms rank.0 (op_keys op.Note) keys.0 rank.1 keys.1 refl refl refl refl

stop_plain : (ranks : ℕ) (ms : Members) (s : PlannedStep) → stop_step ranks ms ≡ Ok s → IsPlain ms
unfolding stop_step
stop_plain ranks ms s is =
    let rank = ok_first (required_number (codes "rank") ms) _ s is in
    let keys = ok_first (only_keys (op_keys op.Stop) ms) _ s rank.2 in
    other_plain ms rank.0 (op_keys op.Stop) keys.0 rank.1 keys.1 refl refl refl refl

by_op : (ranks : ℕ) (names : List Name) (o : Op) (ms : Members) (s : PlannedStep) → step_of_op ranks names o ms ≡ Ok s → IsPlain ms
unfolding step_of_op
by_op ranks names op.Send ms s is = send_plain ranks ms s is
by_op ranks names op.Recv ms s is = recv_plain ranks ms s is
by_op ranks names op.Wait ms s is = req_plain op.Wait _ ranks names ms s (refl, refl, refl, refl) is
by_op ranks names op.Probe ms s is = probe_plain ranks ms s is
by_op ranks names op.Mrecv ms s is = mrecv_plain ranks names ms s is
by_op ranks names op.Cancel ms s is = req_plain op.Cancel _ ranks names ms s (refl, refl, refl, refl) is
by_op ranks names op.Failed ms s is = comm_plain op.Failed _ ranks ms s (refl, refl, refl, refl) is
by_op ranks names op.Ack ms s is = ack_plain ranks ms s is
by_op ranks names op.Revoke ms s is = comm_plain op.Revoke _ ranks ms s (refl, refl, refl, refl) is
by_op ranks names op.Dup ms s is = making_plain op.Dup _ ranks ms s (refl, refl, refl, refl) is
by_op ranks names op.Shrink ms s is = making_plain op.Shrink _ ranks ms s (refl, refl, refl, refl) is
by_op ranks names op.Agree ms s is = agree_plain ranks ms s is
by_op ranks names op.Note ms s is = note_plain ranks ms s is
by_op ranks names op.Stop ms s is = stop_plain ranks ms s is

-- a step that is read is so
pub step_plain : (ranks : ℕ) (names : List Name) (ms : Members) (s : PlannedStep) → step_of ranks names ms ≡ Ok s → IsPlain ms
unfolding step_of
step_plain ranks names ms s is =
    let name = ok_first (required_text (codes "op") ms) _ s is in
    let o = ok_first (known (op_named name.0)) _ s name.2 in
    by_op ranks names o.0 ms s o.2
