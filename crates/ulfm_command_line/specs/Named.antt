-- What the names of steps in `--stop` come to, once the job is read.
use Rattle.std.specs.Prelude.{◌≡◌, ℕ, List, Some, None, Result, Ok, Err}
use Rattle.ulfm_job.specs.declared.fault.JobFault.{JobFault}
use Rattle.ulfm_job.specs.declared.fault.JobFault.TheVariants.{OutOfMemory}
use Rattle.ulfm_forms.specs.declared.form.Form.{Form}
use Rattle.ulfm_reader.specs.JobText.{job_of_bytes, reading_of_bytes}
use Rattle.ulfm_command_line.specs.AskedFor.{Asked, reading_as}
use Rattle.ulfm_command_line.specs.Body.{body_in}
use Rattle.ulfm_command_line.specs.Failure.{out_of_memory_in}
use Rattle.ulfm_command_line.specs.Naming.{place_named}
use Rattle.ulfm_command_line.specs.Unknown.{unnamed_in}
use Rattle.ulfm_command_line.specs.Replies.{refused_in}
use Rattle.ulfm_command_line.specs.declared.command.Wanted.{Wanted}
use Rattle.ulfm_command_line.specs.declared.command.Wanted.TheVariants.{Replay, Run, Outcomes, Draw}
use Rattle.ulfm_command_line.specs.declared.reply.Reply.{Reply}
use Rattle.ulfm_job.specs.declared.place.Place.{Place}

-- a command with the stops of a place
abbrev pub wanted_at : Place → Wanted → Wanted
wanted_at place (Replay is_strict turns _) = Replay is_strict turns place
wanted_at place (Run options) = Run (record options { place = place })
wanted_at place (Outcomes options) = Outcomes (record options { place = place })
wanted_at place (Draw style turns _) = Draw style turns place
wanted_at place wanted = wanted

-- what these bytes ask for has a step of each name in a text: that is this place
pub record IsNamed (text bytes : List ℕ) (place : Place) : Type 0 where
  pub read : Asked
  pub is_read : reading_of_bytes bytes ≡ Ok (reading_as read)
  pub named : place_named read.names text ≡ Some place

-- The status and the text, in this form, where nothing is played since a text comes to no place: the line of the job's refusal, which may be J7; or
-- that the job has no such steps; with 3 the line that memory ran out.
pub data IsUnnamed (form : Form) (text bytes : List ℕ) : ℕ → List ℕ → Type 0 where
  no_job : (f : JobFault) → job_of_bytes bytes ≡ Err f → IsUnnamed form text bytes 1 (refused_in form f)
  no_name : (read : Asked) → reading_of_bytes bytes ≡ Ok (reading_as read) → place_named read.names text ≡ None → IsUnnamed form text bytes 1 (unnamed_in form text)
  no_memory : IsUnnamed form text bytes 1 (refused_in form OutOfMemory)
  starved : IsUnnamed form text bytes 3 (out_of_memory_in form)

-- the place that a text comes to, or the reply, in each form, that it comes to none
abbrev pub IsSettled : List ℕ → List ℕ → Result Place Reply → Type 0
IsSettled text bytes (Ok place) = IsNamed text bytes place
IsSettled text bytes (Err reply) = (form : Form) → IsUnnamed form text bytes reply.status (body_in form reply.body)
