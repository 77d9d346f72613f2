use Rattle.std.proofs.Common.{◌≡◌, ◌++◌, string_bytes, drop}
use Rattle.ulfm_forms.specs.Trace.{steps_json}
use Rattle.ulfm_forms.proofs.trace.push_steps.Given as goal

abbrev pub invariant-loop-k : goal.invariant-loop-k
invariant-loop-k l =
    string_bytes l.text ++ steps_json l.names l.job l.rank l.k (drop l.k l.steps) ≡ string_bytes l.initial.text ++ steps_json l.names l.job l.rank 0 l.steps
