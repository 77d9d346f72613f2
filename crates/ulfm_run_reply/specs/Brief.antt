-- Repeated runs in brief: the lines that all traces have, once, and then the others, each with its count.
use Rattle.std.specs.Prelude.{ℕ, ◌==◌, Bool, List, [], ◌∷◌, ◌++◌, Option, Some, None, codes, length, map, option_map, slice_get, if◌then◌else◌}
use Rattle.std.specs.Fmt.{decimal}
use Rattle.std.specs.List.{filter_map, flat_map, range_with_len}
use Rattle.std.specs.Option.{option_and_then}
use Rattle.std.specs.Str.{bytes_eq}
use Rattle.ulfm_answer.specs.Report.{Report}
use Rattle.ulfm_answer.specs.Trace.{closing_line}
use Rattle.ulfm_answer.specs.declared.answer.StepAnswer.{StepAnswer}
use Rattle.ulfm_answer.specs.declared.answer.StepAnswer.TheVariants.{Unfinished}
use Rattle.ulfm_job.specs.Job.{JobView, script_at}
use Rattle.ulfm_job.specs.Words.{told_at}
use Rattle.ulfm_forms.specs.Form.{trace_in}
use Rattle.ulfm_forms.specs.Trace.{end_json, step_json}
use Rattle.ulfm_forms.specs.WordedTrace.{line_in}
use Rattle.ulfm_forms.specs.declared.form.Form.{Form}
use Rattle.ulfm_forms.specs.declared.form.Form.TheVariants.{Words, Json}
use Rattle.ulfm_log.specs.Facts.{is_stopped}
use Rattle.ulfm_reader.specs.declared.name.Name.{Name}
use Rattle.ulfm_run_reply.specs.Tally.{Row, counted_once, row_in, row_json, rows_of, tally, tally_in}
use Rattle.ulfm_run_reply.specs.declared.lines_at.LinesAt.{LinesAt}

-- a place of a trace: a rank, and the step that a line is about, or none where it is of how the rank ended
abbrev pub Spot : Type 0
Spot = ℕ × Option ℕ

-- the distinct lines of runs at a place, each with its count
abbrev pub Lines : Type 0
Lines = Spot × List Row

-- the lines at a place in memory, as their bytes and counts
abbrev pub lines_seen : LinesAt → Lines
lines_seen lines = ((lines.rank, lines.at), rows_of lines.rows.items)

-- the places of a rank's lines, in the order of its script
abbrev pub rank_spots : JobView → ℕ → List Spot
rank_spots job rank = map (λ k. (rank, Some k)) (range_with_len 0 (length (script_at job rank))) ++ (rank, None) ∷ []

-- those of all ranks, in the order of a trace
abbrev pub spots : JobView → List Spot
spots job = flat_map (rank_spots job) (range_with_len 0 job.ranks)

-- the line of a step with this answer, in this form
abbrev pub step_line_in : Form → List Name → JobView → ℕ → ℕ → StepAnswer → List ℕ
step_line_in (Words wording) names job rank k answer = line_in wording job rank k answer
step_line_in Json names job rank k answer = step_json names rank k (told_at job rank k) answer

-- the line of how a rank ended
abbrev pub end_line_in : Form → ℕ → Report → List ℕ
end_line_in (Words wording) rank report = closing_line rank (is_stopped report.rank.log) report.starved
end_line_in Json rank report = end_json rank (is_stopped report.rank.log) report.starved

-- the line of a rank's report at a place, where the step has an answer
abbrev pub line_of : Form → List Name → JobView → ℕ → Option ℕ → Report → Option (List ℕ)
line_of form names job rank (Some k) report = option_map (λ done. step_line_in form names job rank k done.answer) (slice_get report.steps k)
line_of form names job rank None report = Some (end_line_in form rank report)

-- the line of a run at a place
abbrev pub line_at : Form → List Name → JobView → Spot → List Report → Option (List ℕ)
line_at form names job spot reports = option_and_then (line_of form names job spot.0 spot.1) (slice_get reports spot.0)

-- the distinct lines of runs at a place, in the order in which they first came, each with the count of the runs that have it
abbrev pub lines_there : Form → List Name → JobView → List (List Report) → Spot → Lines
lines_there form names job runs spot = (spot, tally (filter_map (line_at form names job spot) runs))

-- those at all places, in the order of a trace
abbrev pub lines_of : Form → List Name → JobView → List (List Report) → List Lines
lines_of form names job runs = map (lines_there form names job runs) (spots job)

-- one more line beside others, if there is one
abbrev pub line_counted : List Row → Option (List ℕ) → List Row
line_counted found None = found
line_counted found (Some line) = counted_once found line

-- the lines at a place with that of one more run
abbrev pub with_run : Form → List Name → JobView → List Report → Lines → Lines
with_run form names job reports lines = (lines.0, line_counted lines.1 (line_at form names job lines.0 reports))

-- the line at a place that tells of an unfinished step: none where it is how a rank ended
abbrev pub hang_at : Form → List Name → JobView → ℕ → Option ℕ → List ℕ
hang_at form names job rank (Some k) = step_line_in form names job rank k Unfinished
hang_at form names job rank None = []

-- a line of all of so many runs, and nothing of the others
abbrev pub common_line : ℕ → Row → List ℕ
common_line times line = if line.1 == times then line.0 else []

-- those at a place
abbrev pub common_lines : ℕ → Lines → List ℕ
common_lines times lines = flat_map (common_line times) lines.1

-- what stands between a count and its line
abbrev pub mark_text : Bool → List ℕ
mark_text hangs = if hangs then codes " runs hang: " else codes " runs: "

-- a line behind its count, in this form, where this line tells of an unfinished step
abbrev pub counted_line : Form → ℕ → List ℕ → Row → List ℕ
counted_line (Words wording) times hang line = decimal line.1 ++ codes " of " ++ decimal times ++ mark_text (bytes_eq line.0 hang) ++ line.0
counted_line Json times hang line = row_json times line

-- a line that some of so many runs lack, behind its count, and nothing of the others
abbrev pub differing_line : Form → ℕ → List ℕ → Row → List ℕ
differing_line form times hang line = if line.1 == times then [] else counted_line form times hang line

-- those at a place
abbrev pub differing_lines : Form → List Name → JobView → ℕ → Lines → List ℕ
differing_lines form names job times lines = flat_map (differing_line form times (hang_at form names job lines.0.0 lines.0.1)) lines.1

-- the lines that all of so many runs have, below that count, and then the others
abbrev pub parted_in : Form → List Name → JobView → ℕ → List Lines → List ℕ
parted_in form names job times places = row_in form times (flat_map (common_lines times) places, times) ++ flat_map (differing_lines form names job times) places

-- what is told of repeated runs of a job
abbrev pub repeats_in : Form → Bool → List Name → JobView → List (List Report) → List ℕ
repeats_in form is_brief names job runs =
    if is_brief then parted_in form names job (length runs) (lines_of form names job runs) else tally_in form (length runs) (tally (map (trace_in form names job) runs))
