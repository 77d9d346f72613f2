use Rattle.std.proofs.Common.{◌≡◌, string_bytes, take}
use Rattle.ulfm_forms.specs.Trace.{trace_json}
use Rattle.ulfm_run_reply.proofs.traced.trace_json.Given as goal

abbrev pub invariant-loop-report : goal.invariant-loop-report
invariant-loop-report l = string_bytes l.text ≡ trace_json l.names l.job (take l.report-index l.reports)
