use Rattle.std.proofs.Common.{◌≡◌, string_bytes, take}
use Rattle.ulfm_run_reply.specs.Sweep.{sweep_in}
use Rattle.ulfm_run_reply.proofs.swept.sweep_text.Given as goal

abbrev pub invariant-loop-line : goal.invariant-loop-line
invariant-loop-line l = string_bytes l.text ≡ sweep_in l.form (take l.line-index l.lines)
