use Rattle.std.proofs.Common.{◌++◌, ap, sym, ◌∙◌}
use Rattle.ulfm_replay.specs.Sweep.{places_in}
use Rattle.ulfm_replay.proofs.Swept.{next_rank}
use Rattle.ulfm_replay.proofs.sweeps.sweep.Goals as goal

pub loop-rank-preserved : goal.loop-rank-preserved
loop-rank-preserved c =
    let more = c.in_ok-sweep_rank.ensures.places ∙ ap (λ places. places ++ places_in c.args.job.now c.loop-rank.rank) c.loop-rank.invariant.0 in
    (more ∙ sym (next_rank c.args.job.now c.loop-rank.rank), c.in_ok-sweep_rank.ensures.swept c.loop-rank.invariant.1)
