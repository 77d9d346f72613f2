-- What the program writes for a job.
use Rattle.std.specs.Prelude.{◌≡◌, ◌≢◌, ◌⊎◌, ℕ, List, take, Option, Some, None, IfSome, codes}
use Rattle.std.specs.Io.KnownBytes.{Appends}
use Rattle.ulfm_forms.specs.declared.form.Form.{Form}
use Rattle.ulfm_outcomes_reply.specs.ListReply.{IsListReply}
use Rattle.ulfm_run_reply.specs.Sweep.{IsSweepReply}
use Rattle.ulfm_command_line.specs.declared.command.Wanted.{Wanted}
use Rattle.ulfm_command_line.specs.declared.command.Wanted.TheVariants.{Check, Replay, Run, Sweep, Outcomes, Places, Expand, Draw}
use Rattle.ulfm_command_line.specs.Expanded.{IsExpandReply}
use Rattle.ulfm_command_line.specs.Failure.{out_of_memory_text}
use Rattle.ulfm_command_line.specs.Named.{IsNamed, IsUnnamed, wanted_at}
use Rattle.ulfm_command_line.specs.Places.{IsPlacesReply}
use Rattle.ulfm_command_line.specs.Replies.{IsCheckReply}
use Rattle.ulfm_command_line.specs.Wish.{WishView}
use Rattle.ulfm_job.specs.declared.place.Place.{Place}
use Rattle.ulfm_run_reply.specs.Played.{IsDrawReply, IsReplayReply, IsRunReply}

-- the reply in this form to what is asked for, with ranks stopped by the numbers of steps, and with what of outcomes is told
abbrev pub IsReplyBy : Form → WishView → Wanted → List ℕ → ℕ → List ℕ → Type 0
IsReplyBy form wish Check bytes status text = IsCheckReply form bytes status text
IsReplyBy form wish (Replay is_strict turns place) bytes status text = IsReplayReply form is_strict turns place bytes status text
IsReplyBy form wish (Run options) bytes status text = IsRunReply form options bytes status text
IsReplyBy form wish Sweep bytes status text = IsSweepReply form bytes status text
IsReplyBy form wish (Outcomes options) bytes status text = IsListReply form wish.show wish.choice options bytes status text
IsReplyBy form wish (Places stops) bytes status text = IsPlacesReply form stops bytes status text
IsReplyBy form wish Expand bytes status text = IsExpandReply form bytes status text
IsReplyBy form wish (Draw style turns place) bytes status text = IsDrawReply form turns place bytes status text

-- the reply where ranks stop by a text that names steps: with the stops of the place that it comes to, or that it comes to none
pub data IsReplyNaming (form : Form) (wish : WishView) (wanted : Wanted) (stop bytes : List ℕ) : ℕ → List ℕ → Type 0 where
  settled : (place : Place) (status : ℕ) (text : List ℕ) → IsNamed stop bytes place → IsReplyBy form wish (wanted_at place wanted) bytes status text → IsReplyNaming form wish wanted stop bytes status text
  unsettled : (status : ℕ) (text : List ℕ) → IsUnnamed form stop bytes status text → IsReplyNaming form wish wanted stop bytes status text

-- either, where ranks stop by the numbers of steps, or by such a text
abbrev pub IsReplyStopped : Option (List ℕ) → Form → WishView → Wanted → List ℕ → ℕ → List ℕ → Type 0
IsReplyStopped None form wish wanted bytes status text = IsReplyBy form wish wanted bytes status text
IsReplyStopped (Some stop) form wish wanted bytes status text = IsReplyNaming form wish wanted stop bytes status text

-- the reply in this form to what the words ask for, with what they say in names of steps
abbrev pub IsReplyIn : Form → WishView → Wanted → List ℕ → ℕ → List ℕ → Type 0
IsReplyIn form wish wanted bytes status text = IsReplyStopped wish.stop form wish wanted bytes status text

-- the reply in the form that the words ask for; or, where memory runs out before they are followed, the line in words that says so
pub data IsReplyTo (form : Form) (wish : WishView) (wanted : Wanted) (bytes : List ℕ) : ℕ → List ℕ → Type 0 where
  followed : (status : ℕ) (text : List ℕ) → IsReplyIn form wish wanted bytes status text → IsReplyTo form wish wanted bytes status text
  unfollowed : IsReplyTo form wish wanted bytes 3 out_of_memory_text

-- the line for words that can't be read
abbrev pub not_text : List ℕ
not_text = codes "a word of the command line isn't UTF-8\n"

-- the status of a reply that was written whole: the output didn't fail, and neither did the input
abbrev pub IsWhole : ℕ → Type 0
IsWhole status = (status ≢ 4) × (status ≢ 5)

-- the bytes that are read of an input: its first 1,048,577, where it is known
abbrev pub AreRead : Option (List ℕ) → List ℕ → Type 0
AreRead input bytes = IfSome input (λ all. bytes ≡ take 1048577 all)

-- the writer got a text that is the reply to the bytes that were read
pub record GetsReply (IsReply : List ℕ → ℕ → List ℕ → Type 0) (input old new : Option (List ℕ)) (status : ℕ) : Type 0 where
  pub bytes : List ℕ
  pub text : List ℕ
  pub read : AreRead input bytes
  pub reply : IsReply bytes status text
  pub written : Appends old new text

-- the writer got a beginning of this text
abbrev pub GetsFrontOf : Option (List ℕ) → Option (List ℕ) → List ℕ → Type 0
GetsFrontOf old new text = (n : ℕ) × Appends old new (take n text)

-- the writer got a beginning of a text that is a reply to the bytes that were read
pub record GetsBeginning (IsReply : List ℕ → ℕ → List ℕ → Type 0) (input old new : Option (List ℕ)) : Type 0 where
  pub bytes : List ℕ
  pub status : ℕ
  pub text : List ℕ
  pub read : AreRead input bytes
  pub reply : IsReply bytes status text
  pub written : GetsFrontOf old new text

-- the writer got a beginning of some text
abbrev pub GetsFront : Option (List ℕ) → Option (List ℕ) → Type 0
GetsFront old new = (text : List ℕ) × GetsFrontOf old new text

-- the writer got the line that memory ran out, with 3, or a beginning of it, with 4
abbrev pub GetsStarved : Option (List ℕ) → Option (List ℕ) → ℕ → Type 0
GetsStarved old new status = ((status ≡ 3) × Appends old new out_of_memory_text) ⊎ ((status ≡ 4) × GetsFrontOf old new out_of_memory_text)
