use Rattle.std.proofs.Common.{◌≡◌, drop}
use Rattle.std.specs.List.{find}
use Rattle.ulfm_command_line.specs.Naming.{is_labelled}
use Rattle.ulfm_job.specs.Text.{unstarred}
use Rattle.ulfm_command_line.proofs.place_names.stop_by_name.Given as goal

abbrev pub invariant-loop-name : goal.invariant-loop-name
invariant-loop-name l = find (is_labelled (unstarred l.fn.text)) (drop l.name-index l.fn.names) ≡ find (is_labelled (unstarred l.fn.text)) l.fn.names
