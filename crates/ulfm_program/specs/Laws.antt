-- What `outcomes` says of traces, and what the job is that `expand` writes.
use Rattle.std.specs.Prelude.{◌≡◌, ℕ, false, List, Ok, Option}
use Rattle.std.specs.List.{list_any}
use Rattle.ulfm_answer.specs.Report.{Report}
use Rattle.ulfm_forms.specs.declared.form.Form.{Form}
use Rattle.ulfm_reader.specs.JobText.{Reading, reading_of_bytes}
use Rattle.ulfm_reader.specs.declared.filed.Filed.{Filed}
use Rattle.ulfm_command_line.specs.Expanded.{IsExpandReply}
use Rattle.ulfm_command_line.specs.Stopped.{Asked}
use Rattle.ulfm_outcomes_spec.specs.Scheduled.{AreOfSchedule}
use Rattle.ulfm_outcomes_reply.specs.Wanted.{NoneComes}
use Rattle.ulfm_run_reply.specs.Asking.{has_come}
use Rattle.ulfm_run_reply.specs.Played.{given_turns}

-- where no row of `never` comes together in any schedule of a job, none has come in reports of one of its schedules, with whatever turns
abbrev pub RowsStayAway : Type 0
RowsStayAway =
    (asked : Asked) (turns : Option ℕ) (reports : List Report) → NoneComes asked.job asked.rows → AreOfSchedule asked.job reports
    → list_any (has_come (given_turns turns asked.job) reports) asked.rows ≡ false

-- what was read of a job whose steps come from these places of the file
abbrev pub filed_as : List Filed → Reading → Reading
filed_as filed reading = record reading { filed = filed }

-- The text that `expand` writes, with 0, of a job with its steps and rows written out is read as the same job, with the same rows, names and
-- provisos: its steps come from other places of the file, and that is all.
abbrev pub ExpandsAlike : Type 0
ExpandsAlike =
    (form : Form) (bytes text : List ℕ) (reading : Reading) → reading_of_bytes bytes ≡ Ok reading → IsExpandReply form bytes 0 text
    → (filed : List Filed) × (reading_of_bytes text ≡ Ok (filed_as filed reading))
