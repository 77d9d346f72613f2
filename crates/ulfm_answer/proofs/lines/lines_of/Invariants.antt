use Rattle.std.proofs.Common.{◌≡◌, ◌++◌, string_bytes, drop}
use Rattle.ulfm_answer.specs.Trace.{step_lines}
use Rattle.ulfm_answer.proofs.lines.lines_of.Given as goal

abbrev pub invariant-loop-k : goal.invariant-loop-k
invariant-loop-k l = string_bytes l.lines ++ step_lines l.job l.me l.k (drop l.k l.steps) ≡ step_lines l.job l.me 0 l.steps
