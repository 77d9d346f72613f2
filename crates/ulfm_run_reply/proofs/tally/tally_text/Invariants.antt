use Rattle.std.proofs.Common.{◌≡◌, string_bytes, take}
use Rattle.ulfm_run_reply.specs.Tally.{rows_of, tally_in}
use Rattle.ulfm_run_reply.proofs.tally.tally_text.Given as goal

abbrev pub invariant-loop-row : goal.invariant-loop-row
invariant-loop-row l = string_bytes l.text ≡ tally_in l.form l.times (rows_of (take l.row-index l.rows))
