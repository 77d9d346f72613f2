use Rattle.std.proofs.Common.{◌≡◌, string_bytes, take}
use Rattle.std.specs.List.{flat_map}
use Rattle.ulfm_forms.specs.WordedTrace.{rank_in}
use Rattle.ulfm_forms.specs.declared.wording.Wording.TheVariants.{Mpi}
use Rattle.ulfm_run_reply.proofs.traced.mpi_trace.Given as goal

abbrev pub invariant-loop-report : goal.invariant-loop-report
invariant-loop-report l = string_bytes l.text ≡ flat_map (rank_in Mpi l.job) (take l.report-index l.reports)
