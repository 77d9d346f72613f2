use Rattle.std.proofs.Common.{arith, length, sym, ◌∙◌}
use Rattle.ulfm_job.specs.Job.{script_at}
use Rattle.ulfm_job.specs.Places.{stops_always}
use Rattle.ulfm_job.proofs.Listed.{first_place}
use Rattle.ulfm_job.proofs.job_places.last_place.Goals as goal

pub returns-then-stops_always-clause-exact : goal.returns-then-stops_always-clause-exact
returns-then-stops_always-clause-exact c =
    first_place (stops_always c.args.job.now c.args.rank) (length (script_at c.args.job.now c.args.rank)) c.loop-at.at (omega (arith, c.loop-at.auto.at-end, c.script_len-len.ensures.exact))
    c.loop-at.invariant (λ lt. sym c.stops_always.ensures ∙ c.if-stops_always.true)

pub returns-clause-exact : goal.returns-clause-exact
returns-clause-exact c =
    let n = length (script_at c.args.job.now c.args.rank) in
    c.script_len-len.ensures.exact ∙ first_place (stops_always c.args.job.now c.args.rank) n n (omega arith)
    (λ k lt. c.loop-at.invariant k (omega (arith, lt, c.script_len-len.ensures.exact, c.loop-at-test.false))) (λ lt. absurd (omega (arith, lt)))
