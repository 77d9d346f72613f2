-- What is written with the status of any command, as a text.
use Rattle.std.specs.Prelude.{ℕ, List, map}
use Rattle.ulfm_forms.specs.Form.{trace_in}
use Rattle.ulfm_forms.specs.declared.form.Form.{Form}
use Rattle.ulfm_command_line.specs.Body.{body_in}
use Rattle.ulfm_run_reply.specs.Brief.{lines_seen, parted_in}
use Rattle.ulfm_run_reply.specs.Rest.{ran_in}
use Rattle.ulfm_run_reply.specs.Sweep.{sweep_in}
use Rattle.ulfm_run_reply.specs.Tally.{rows_of, tally_in}
use Rattle.ulfm_run_reply.specs.declared.any_body.AnyBody.{AnyBody}
use Rattle.ulfm_run_reply.specs.declared.any_body.AnyBody.TheVariants.{Plain, Trace, Ran, Tally, Brief, Sweep}

-- its text in this form
abbrev pub text_in : Form → AnyBody → List ℕ
text_in form (Plain body) = body_in form body
text_in form (Trace asked reports) = trace_in form asked.names.items asked.job reports.items
text_in form (Ran asked ran) = ran_in form asked.names.items asked.job ran.reports.items ran.is_at_rest
text_in form (Tally times rows) = tally_in form times (rows_of rows.items)
text_in form (Brief asked times spots) = parted_in form asked.names.items asked.job times (map lines_seen spots.items)
text_in form (Sweep lines) = sweep_in form lines.items
