-- The replies where memory runs out.
use Rattle.std.proofs.Common.{◌≡◌, ◌≢◌, ℕ, List, Option, Some, None, sym, subst}
use Rattle.std.specs.Io.KnownBytes.{Appends}
use Rattle.ulfm_forms.specs.declared.form.Form.{Form}
use Rattle.ulfm_command_line.specs.declared.command.Wanted.{Wanted}
use Rattle.ulfm_command_line.specs.declared.command.Wanted.TheVariants.{Check, Replay, Run, Sweep, Outcomes, Places, Expand, Draw}
use Rattle.ulfm_command_line.specs.Failure.{out_of_memory_in}
use Rattle.ulfm_command_line.specs.Expanded as expanded
use Rattle.ulfm_command_line.specs.Named as named
use Rattle.ulfm_command_line.specs.Places as places
use Rattle.ulfm_command_line.specs.Replies.{starved}
use Rattle.ulfm_command_line.specs.Wish.{WishView}
use Rattle.ulfm_outcomes_reply.proofs.Statuses.{starved_list}
use Rattle.ulfm_program.proofs.Answered.{some_read}
use Rattle.ulfm_program.specs.Replies.{IsReplyBy, IsReplyIn, IsReplyStopped, IsWhole, GetsReply, GetsBeginning, GetsFrontOf, unsettled}
use Rattle.ulfm_run_reply.specs.Played.{failed, undrawn, fell}
use Rattle.ulfm_run_reply.specs.Sweep.{unswept}

-- out of memory is a reply in each form, with ranks stopped by the numbers of steps
starved_by : (form : Form) (wish : WishView) (wanted : Wanted) (bytes : List ℕ) → IsReplyBy form wish wanted bytes 3 (out_of_memory_in form)
starved_by form wish Check bytes = starved
starved_by form wish (Replay is_strict turns place) bytes = failed
starved_by form wish (Run options) bytes = fell
starved_by form wish Sweep bytes = unswept
starved_by form wish (Outcomes options) bytes = starved_list form wish.show wish.choice options bytes
starved_by form wish (Places stops) bytes = places.starved
starved_by form wish Expand bytes = expanded.starved
starved_by form wish (Draw style turns place) bytes = undrawn

-- and with ranks stopped by names
starved_stopped : (stop : Option (List ℕ)) (form : Form) (wish : WishView) (wanted : Wanted) (bytes : List ℕ) → IsReplyStopped stop form wish wanted bytes 3 (out_of_memory_in form)
starved_stopped None form wish wanted bytes = starved_by form wish wanted bytes
starved_stopped (Some stop) form wish wanted bytes = unsettled 3 (out_of_memory_in form) named.starved

-- so it is one to any words, in the form that they ask for
pub starved_reply : (form : Form) (wish : WishView) (wanted : Wanted) (bytes : List ℕ) → IsReplyIn form wish wanted bytes 3 (out_of_memory_in form)
starved_reply form wish wanted bytes = starved_stopped wish.stop form wish wanted bytes

-- such a line is written whole
pub starved_gets : (IsReply : List ℕ → ℕ → List ℕ → Type 0) (line : List ℕ) → ((bytes : List ℕ) → IsReply bytes 3 line) → (input old new : Option (List ℕ)) (status : ℕ)
    → (status ≢ 4 → (status ≡ 3) × Appends old new line) → IsWhole status → GetsReply IsReply input old new status
starved_gets IsReply line is input old new status h whole =
    let w = h whole.0 in
    let read = some_read input in
    record { bytes = read.0; text = line; read = read.1; reply = subst (λ (k : ℕ). IsReply read.0 k line) (sym w.0) (is read.0); written = w.1 }

-- or a beginning of it is
pub starved_begins : (IsReply : List ℕ → ℕ → List ℕ → Type 0) (line : List ℕ) → ((bytes : List ℕ) → IsReply bytes 3 line) → (input old new : Option (List ℕ)) (status : ℕ)
    → (status ≡ 4 → GetsFrontOf old new line) → status ≡ 4 → GetsBeginning IsReply input old new
starved_begins IsReply line is input old new status h four =
    let read = some_read input in
    record { bytes = read.0; status = 3; text = line; read = read.1; reply = is read.0; written = h four }
