-- The statuses that replies have.
use Rattle.std.proofs.Common.{ℕ, List, Option, Some, None}
use Rattle.ulfm_forms.specs.declared.form.Form.{Form}
use Rattle.ulfm_command_line.proofs.Statuses.{IsKnown, checked, expand_known, places_known, unnamed_known}
use Rattle.ulfm_command_line.specs.Named.{wanted_at}
use Rattle.ulfm_command_line.specs.declared.command.Wanted.{Wanted}
use Rattle.ulfm_command_line.specs.declared.command.Wanted.TheVariants.{Check, Replay, Run, Sweep, Outcomes, Places, Expand, Draw}
use Rattle.ulfm_command_line.specs.Wish.{WishView}
use Rattle.ulfm_outcomes_reply.proofs.Statuses.{reply_known}
use Rattle.ulfm_program.specs.Replies.{IsReplyBy, IsReplyIn, IsReplyNaming, IsReplyStopped, settled, unsettled}
use Rattle.ulfm_run_reply.proofs.Statuses.{drawn_known, replayed, run_known, sweep_known}

known_by : (form : Form) (wish : WishView) (wanted : Wanted) (bytes : List ℕ) (status : ℕ) (text : List ℕ) → IsReplyBy form wish wanted bytes status text → IsKnown status
known_by form wish Check bytes status text h = checked form bytes status text h
known_by form wish (Replay is_strict turns place) bytes status text h = replayed form is_strict turns place bytes status text h
known_by form wish (Run options) bytes status text h = run_known form options bytes status text h
known_by form wish Sweep bytes status text h = sweep_known form bytes status text h
known_by form wish (Places stops) bytes status text h = places_known form stops bytes status text h
known_by form wish Expand bytes status text h = expand_known form bytes status text h
known_by form wish (Draw style turns place) bytes status text h = drawn_known form turns place bytes status text h
known_by form wish (Outcomes options) bytes status text h = reply_known form wish.show wish.choice options bytes status text h

known_naming : (form : Form) (wish : WishView) (wanted : Wanted) (stop bytes : List ℕ) (status : ℕ) (text : List ℕ) → IsReplyNaming form wish wanted stop bytes status text → IsKnown status
known_naming form wish wanted stop bytes status text (settled place k words named h) = known_by form wish (wanted_at place wanted) bytes status text h
known_naming form wish wanted stop bytes status text (unsettled k words h) = unnamed_known form stop bytes status text h

known_stopped : (stop : Option (List ℕ)) (form : Form) (wish : WishView) (wanted : Wanted) (bytes : List ℕ) (status : ℕ) (text : List ℕ) → IsReplyStopped stop form wish wanted bytes status text → IsKnown status
known_stopped None form wish wanted bytes status text h = known_by form wish wanted bytes status text h
known_stopped (Some stop) form wish wanted bytes status text h = known_naming form wish wanted stop bytes status text h

pub known_status : (form : Form) (wish : WishView) (wanted : Wanted) (bytes : List ℕ) (status : ℕ) (text : List ℕ) → IsReplyIn form wish wanted bytes status text → IsKnown status
known_status form wish wanted bytes status text h = known_stopped wish.stop form wish wanted bytes status text h
