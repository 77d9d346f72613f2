use Rattle.std.proofs.Common.{◌≡◌, string_bytes}
use Rattle.ulfm_run_reply.specs.Tally.{counted, rows_of}
use Rattle.ulfm_run_reply.proofs.Tallied.{counted_from}
use Rattle.ulfm_run_reply.proofs.tally.count_text.Given as goal

abbrev pub invariant-loop-place : goal.invariant-loop-place
invariant-loop-place l = (l.rows ≡ l.initial.rows) × (counted (rows_of l.rows.items) (string_bytes l.text, l.count) ≡ counted_from l.rows.items (string_bytes l.text, l.count) l.place)
