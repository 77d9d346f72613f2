use Rattle.std.proofs.Common.{◌≡◌, ◌++◌, flat_map, string_bytes, take}
use Rattle.ulfm_run_reply.specs.Tally.{rows_of}
use Rattle.ulfm_run_reply.specs.Brief.{common_line}
use Rattle.ulfm_run_reply.proofs.brief.push_common.Given as goal

abbrev pub invariant-loop-line : goal.invariant-loop-line
invariant-loop-line l = string_bytes l.text ≡ string_bytes l.fn.text ++ flat_map (common_line l.times) (rows_of (take l.line-index l.lines))
