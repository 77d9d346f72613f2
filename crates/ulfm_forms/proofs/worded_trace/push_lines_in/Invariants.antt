use Rattle.std.proofs.Common.{◌≡◌, ◌++◌, string_bytes, drop}
use Rattle.ulfm_forms.specs.WordedTrace.{lines_in}
use Rattle.ulfm_forms.proofs.worded_trace.push_lines_in.Given as goal

abbrev pub invariant-loop-k : goal.invariant-loop-k
invariant-loop-k l =
    string_bytes l.text ++ lines_in l.wording l.job l.r l.k (drop l.k l.steps) ≡ string_bytes l.initial.text ++ lines_in l.wording l.job l.r 0 l.steps
