-- What is written for a reply.
use Rattle.std.specs.Prelude.{◌≡◌, ◌≢◌, ◌⊎◌, ℕ, List, Option}
use Rattle.std.specs.Io.KnownBytes.{Appends}
use Rattle.ulfm_forms.specs.declared.form.Form.{Form}
use Rattle.ulfm_program.specs.Replies.{GetsFrontOf}
use Rattle.ulfm_run_reply.specs.AnyBody.{text_in}
use Rattle.ulfm_command_line.specs.Failure.{out_of_memory_in}
use Rattle.ulfm_run_reply.specs.declared.any_reply.AnyReply.{AnyReply}

-- the status and the text of a reply in this form, or in its place those that memory ran out
abbrev pub IsPrinted : Form → AnyReply → ℕ → List ℕ → Type 0
IsPrinted form reply status text = ((status ≡ reply.status) × (text ≡ text_in form reply.body)) ⊎ ((status ≡ 3) × (text ≡ out_of_memory_in form))

-- the writer got one of these, or with 4 a beginning of it
pub record GetsPrinted (form : Form) (reply : AnyReply) (old new : Option (List ℕ)) (result : ℕ) : Type 0 where
  pub status : ℕ
  pub text : List ℕ
  pub printed : IsPrinted form reply status text
  pub written : result ≢ 4 → (result ≡ status) × Appends old new text
  pub failed : result ≡ 4 → GetsFrontOf old new text
  pub known : (result ≡ status) ⊎ (result ≡ 4)
