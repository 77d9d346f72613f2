use Rattle.std.proofs.Common.{◌<◌, ℕ}
use Rattle.ulfm_run.specs.inside.Listed.{AdoptsHere}
use Rattle.ulfm_run.proofs.Common.{at, Entry}
use Rattle.ulfm_run.proofs.proposing.adopts_it.Given as goal

abbrev pub invariant-loop-place : goal.invariant-loop-place
invariant-loop-place l = (k : ℕ) (x : Entry) → k < l.place → at l.log k x → AdoptsHere l.me l.log l.front l.decision k x → ⊥
