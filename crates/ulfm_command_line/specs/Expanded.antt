-- What `expand` writes for a job.
use Rattle.std.specs.Prelude.{◌≡◌, ◌<◌, ◌≤◌, ℕ, false, true, List, length, Option, Some, None, Ok, Err, option_map, if◌then◌else◌}
use Rattle.std.specs.Str.{is_utf8}
use Rattle.toml.specs.Data.{Data, Members, table, members_depth}
use Rattle.toml.specs.Parse.{parse_document}
use Rattle.toml.specs.Text.{IsDocumentText}
use Rattle.ulfm_job.specs.declared.fault.JobFault.{JobFault}
use Rattle.ulfm_job.specs.declared.fault.JobFault.TheVariants.{NotToml, OutOfMemory, TooLarge}
use Rattle.ulfm_reader.specs.Documents.{written_job}
use Rattle.ulfm_forms.specs.declared.form.Form.{Form}
use Rattle.ulfm_reader.specs.JobText.{job_of_bytes}
use Rattle.ulfm_reader.specs.Plan.{Plan}
use Rattle.ulfm_command_line.specs.Failure.{out_of_memory_in}
use Rattle.ulfm_command_line.specs.Replies.{refused_in}

-- the job that the bytes are, as a TOML document with its steps written out, where they are a document
abbrev pub document_in : List ℕ → Option Data
document_in bytes = if is_utf8 bytes then option_map (λ ms. table (written_job ms)) (parse_document bytes) else None

-- The status and the text, in this form, for the table of a job with its steps written out: with 0 a TOML text of this table, which is read as
-- it, and isn't longer than a job's text may be. A longer one is refused as such a job's is, with 1, and so is one that is nested deeper than TOML is read.
pub data IsWritten (form : Form) (ms : Members) : ℕ → List ℕ → Type 0 where
  written : (text : List ℕ) → is_utf8 text ≡ true → parse_document text ≡ Some ms → length text ≤ 1048576 → IsWritten form ms 0 text
  too_long : (text : List ℕ) → IsDocumentText false ms text → 1048576 < length text → IsWritten form ms 1 (refused_in form TooLarge)
  too_deep : 80 < members_depth ms → IsWritten form ms 1 (refused_in form NotToml)

-- The status and the text, in this form, that `expand` gives for these bytes: of a job what is written for its table with its steps written out;
-- of its refusal the line, with 1.
pub data IsExpandReply (form : Form) (bytes : List ℕ) : ℕ → List ℕ → Type 0 where
  expanded : (plan : Plan) (ms : Members) (status : ℕ) (text : List ℕ) → job_of_bytes bytes ≡ Ok plan → document_in bytes ≡ Some (table ms) → IsWritten form ms status text
      → IsExpandReply form bytes status text
  unexpanded : (f : JobFault) → job_of_bytes bytes ≡ Err f → IsExpandReply form bytes 1 (refused_in form f)
  full : IsExpandReply form bytes 1 (refused_in form OutOfMemory)
  starved : IsExpandReply form bytes 3 (out_of_memory_in form)
