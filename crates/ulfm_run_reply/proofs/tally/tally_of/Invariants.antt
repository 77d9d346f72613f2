use Rattle.std.proofs.Common.{◌≡◌, ◌≤◌, ◌-◌, All, List, length, map}
use Rattle.std.specs.List.{list_all, list_any}
use Rattle.ulfm_run_reply.specs.Played.{AreOfRun}
use Rattle.ulfm_reader.specs.JobText.{rows_of as rows_asked}
use Rattle.ulfm_answer.specs.Report.{Report}
use Rattle.ulfm_forms.specs.Form.{trace_in}
use Rattle.ulfm_run_reply.specs.Brief.{lines_seen, lines_there}
use Rattle.ulfm_run_reply.specs.inside.Tallied.{AreFew, AreFewAt, spots_told}
use Rattle.ulfm_run_reply.specs.Tally.{rows_of, tally}
use Rattle.ulfm_run_reply.specs.Asking.{as_asked}
use Rattle.ulfm_run_reply.specs.Unfinished.{has_unfinished}
use Rattle.ulfm_run_reply.proofs.tally.tally_of.Given as goal

abbrev pub decreases-loop-done : goal.decreases-loop-done
decreases-loop-done g l = l.times - l.done

abbrev pub invariant-loop-done : goal.invariant-loop-done
invariant-loop-done g l = (l.done ≤ l.times) × AreFew l.done l.tally.rows.items × AreFewAt l.done l.tally.spots.items
    × ((runs : List (List Report)) × (length runs ≡ l.done) × All (AreOfRun l.asked.job) runs
    × (l.tally.is_unfinished ≡ list_any (has_unfinished l.asked.job) runs) × (l.tally.is_met ≡ list_all (as_asked (rows_asked l.asked.never.items) l.asked.job) runs) × (rows_of l.tally.rows.items ≡ tally (map (trace_in l.form l.asked.names.items l.asked.job) runs))
    × (map lines_seen l.tally.spots.items ≡ map (lines_there l.form l.asked.names.items l.asked.job runs) (spots_told l.options.is_brief l.asked.job)))
