use Rattle.std.proofs.Common.{◌≡◌, ◌++◌, List, ℕ, drop}
use Rattle.ulfm_answer.specs.Trace.{spaced}
use Rattle.ulfm_answer.proofs.putting.put_spaced.Given as goal

abbrev pub invariant-loop-number : goal.invariant-loop-number
invariant-loop-number g l = (more : List ℕ) → g.S.Sink.with_rest l.sink (spaced (drop l.number-index l.numbers) ++ more) ≡ g.S.Sink.with_rest l.initial.sink (spaced l.numbers ++ more)
