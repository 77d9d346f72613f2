-- What the program writes for a job that is played: replayed, run, or drawn.
use Rattle.std.specs.Prelude.{◌≡◌, ◌↔◌, ◌≤◌, ℕ, Bool, true, List, [], length, Option, Some, None, All}
use Rattle.std.specs.List.{list_all, list_any}
use Rattle.std.specs.Option.{option_map_or}
use Rattle.ulfm_base.specs.Items.{items_from}
use Rattle.ulfm_job.specs.Job.{JobView, with_turns}
use Rattle.ulfm_job.specs.declared.place.Place.{Place}
use Rattle.ulfm_answer.specs.Report.{Report}
use Rattle.ulfm_forms.specs.Form.{trace_in}
use Rattle.ulfm_forms.specs.declared.form.Form.{Form}
use Rattle.ulfm_report_laws.specs.Flow.{AreWithin, Inboxes, inbox_of}
use Rattle.ulfm_report_laws.specs.Lawful.{IsLawful}
use Rattle.ulfm_report_laws.specs.Reports.{IsEach}
use Rattle.ulfm_run.specs.Fault.{ShowUntrue}
use Rattle.ulfm_report_laws.specs.Rest.{IsAtRest}
use Rattle.ulfm_report_laws.specs.Room.{HaveRoom}
use Rattle.ulfm_world.specs.Replay.{MadeAtRest}
use Rattle.ulfm_run_reply.specs.Brief.{repeats_in}
use Rattle.ulfm_command_line.specs.declared.command.RunOptions.{RunOptions}
use Rattle.ulfm_command_line.specs.Failure.{failed_in, out_of_memory_in}
use Rattle.ulfm_run_reply.specs.Asking.{as_asked}
use Rattle.ulfm_run_reply.specs.Rest.{ran_in}
use Rattle.ulfm_command_line.specs.Stopped.{Asked, IsAskedAt, IsRefusal}
use Rattle.ulfm_run_reply.specs.Unfinished.{has_unfinished, played_status}
use Rattle.ulfm_command_line.specs.declared.failure.Failure.TheVariants as run

-- the job with the turns of the command line, where they are given
abbrev pub given_turns : Option ℕ → JobView → JobView
given_turns turns job = option_map_or (λ n. with_turns n job) turns job

-- The status and the text, in this form, that `replay` gives for these bytes: with 0 the trace of the reports of a replay of the job, which are lawful for it, and whose running
-- ranks agree at its end on what failed and was revoked, on each shrink and on each agreement. With `--strict` it comes with 6
-- exactly where a step was left unfinished. With `--turns` the job has that number of turns, and with `--stop` the stops of that place.
pub data IsReplayReply (form : Form) (is_strict : Bool) (turns : Option ℕ) (place : Place) (bytes : List ℕ) : ℕ → List ℕ → Type 0 where
  traced : (asked : Asked) (reports : List Report) → IsAskedAt place bytes asked → MadeAtRest (given_turns turns asked.job) reports
      → IsReplayReply form is_strict turns place bytes (played_status is_strict (as_asked asked.rows (given_turns turns asked.job) reports) (has_unfinished (given_turns turns asked.job) reports)) (trace_in form asked.names (given_turns turns asked.job) reports)
  not_replayed : (status : ℕ) (text : List ℕ) → IsRefusal form place bytes status text → IsReplayReply form is_strict turns place bytes status text
  failed : IsReplayReply form is_strict turns place bytes 3 (out_of_memory_in form)

-- The status and the text that `draw` gives for these bytes: with 0 the picture of a replay of the job, as `replay` tells of one. What stands in
-- the picture isn't said here.
pub data IsDrawReply (form : Form) (turns : Option ℕ) (place : Place) (bytes : List ℕ) : ℕ → List ℕ → Type 0 where
  drawn : (asked : Asked) (reports : List Report) (picture : List ℕ) → IsAskedAt place bytes asked → MadeAtRest (given_turns turns asked.job) reports
      → IsDrawReply form turns place bytes 0 picture
  not_drawn : (status : ℕ) (text : List ℕ) → IsRefusal form place bytes status text → IsDrawReply form turns place bytes status text
  undrawn : IsDrawReply form turns place bytes 3 (out_of_memory_in form)

-- there is an inbox for each rank of the job, and nothing is left in it of others
pub record AreOfRanks (job : JobView) (inboxes : Inboxes) : Type 0 where
  pub each : IsEach job inboxes
  pub no_others : (s d : ℕ) → job.ranks ≤ s → items_from s (inbox_of inboxes d) ≡ []

-- the reports are lawful for the job; rings of its places hold what is left in inboxes, and allow an order of all logs
pub record AreOfRun (job : JobView) (reports : List Report) : Type 0 where
  pub lawful : IsLawful job reports
  pub own : AreOfRanks job lawful.inboxes
  pub within : AreWithin lawful.inboxes job.capacity
  pub room : HaveRoom reports job.capacity

-- these are the reports of a run, and it came to rest or not, with what it left in inboxes: at rest running ranks know what `rest` of
-- `LawfulReport` says
pub record RanTo (job : JobView) (reports : List Report) (is_at_rest : Bool) : Type 0 where
  pub run : AreOfRun job reports
  pub rest : (is_at_rest ≡ true) ↔ IsAtRest run.lawful.inboxes reports

-- the reports are lawful for the job; rings of its places don't hold what is left in inboxes, or allow no order of all logs
pub record ShowNoRoom (job : JobView) (reports : List Report) : Type 0 where
  pub lawful : IsLawful job reports
  pub own : AreOfRanks job lawful.inboxes
  pub crowded : HaveRoom reports job.capacity → AreWithin lawful.inboxes job.capacity → ⊥

-- The status and the text that `run` gives: with 0, 6 or 9, the trace of reports that are lawful for the job and had room, whichever thread
-- went when, and as JSON whether the run came to rest; with 3 the line of what failed. F2 comes for a good job alone, and F4 only with reports of the job's ranks that show it. With
-- `--repeat` each distinct trace of so many such runs comes once with its count, and with `--brief` each distinct line.
pub data IsRunReply (form : Form) (options : RunOptions) (bytes : List ℕ) : ℕ → List ℕ → Type 0 where
  ran : (asked : Asked) (reports : List Report) (is_at_rest : Bool) → options.repeat ≡ None → IsAskedAt options.place bytes asked
      → RanTo (given_turns options.turns asked.job) reports is_at_rest
      → IsRunReply form options bytes (played_status options.is_strict (as_asked asked.rows (given_turns options.turns asked.job) reports) (has_unfinished (given_turns options.turns asked.job) reports)) (ran_in form asked.names (given_turns options.turns asked.job) reports is_at_rest)
  repeated : (asked : Asked) (runs : List (List Report)) → options.repeat ≡ Some (length runs) → IsAskedAt options.place bytes asked
      → All (AreOfRun (given_turns options.turns asked.job)) runs
      → IsRunReply form options bytes (played_status options.is_strict (list_all (as_asked asked.rows (given_turns options.turns asked.job)) runs) (list_any (has_unfinished (given_turns options.turns asked.job)) runs)) (repeats_in form options.is_brief asked.names (given_turns options.turns asked.job) runs)
  not_run : (status : ℕ) (text : List ℕ) → IsRefusal form options.place bytes status text → IsRunReply form options bytes status text
  no_thread : (asked : Asked) → IsAskedAt options.place bytes asked → IsRunReply form options bytes 3 (failed_in form run.NoThread)
  untrue : (asked : Asked) (reports : List Report) → IsAskedAt options.place bytes asked
      → ShowUntrue (given_turns options.turns asked.job) reports
      → IsRunReply form options bytes 3 (failed_in form run.Untrue)
  crowded : (asked : Asked) (reports : List Report) → IsAskedAt options.place bytes asked
      → ShowNoRoom (given_turns options.turns asked.job) reports
      → IsRunReply form options bytes 3 (failed_in form run.Untrue)
  fell : IsRunReply form options bytes 3 (out_of_memory_in form)
