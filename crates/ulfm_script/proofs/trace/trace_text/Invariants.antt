use Rattle.std.proofs.Common.{◌≡◌, string_bytes, take}
use Rattle.ulfm_script.proofs.Common.{trace_of}
use Rattle.ulfm_script.proofs.trace.trace_text.Given as goal

abbrev pub invariant-loop-report : goal.invariant-loop-report
invariant-loop-report l = string_bytes l.text ≡ trace_of l.job (take l.report-index l.reports)
