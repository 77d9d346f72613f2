use Rattle.std.proofs.Common.{◌≡◌, ◌++◌, flat_map, string_bytes, take}
use Rattle.ulfm_run_reply.specs.Tally.{rows_of}
use Rattle.ulfm_run_reply.specs.Brief.{differing_line}
use Rattle.ulfm_run_reply.proofs.brief.push_lines.Given as goal

abbrev pub invariant-loop-line : goal.invariant-loop-line
invariant-loop-line l = string_bytes l.text ≡ string_bytes l.fn.text ++ flat_map (differing_line l.form l.times l.hang) (rows_of (take l.line-index l.lines))
