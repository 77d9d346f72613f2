use Rattle.std.proofs.Common.{◌≡◌, ◌<◌, ◌+◌, ℕ, false}
use Rattle.ulfm_world.proofs.Common.{World, Moves, IsStuck}
use Rattle.ulfm_world.proofs.Moves.{loop_then, loop_else}
use Rattle.ulfm_replay.proofs.rounds.round.Goals as goal
use Rattle.ulfm_replay.proofs.rounds.round.Goals.{then-branch, else-branch}

pub loop-r-preserved : goal.loop-r-preserved
loop-r-preserved c =
    let both : Moves c.args.job.now c.args.rounds.now.world c.turn_of.new.rounds.world c.if-branch.moved × (c.if-branch.moved ≡ false → (k : ℕ) → k < c.loop-r.r + 1 → IsStuck c.args.job.now c.turn_of.new.rounds.world k) = elim c.if-branch.branch [
      | then-branch w ↦ loop_then _ _ _ _ _ _ (λ (x : World) (k : ℕ). IsStuck c.args.job.now x k) c.loop-r.r c.loop-r.invariant.1 c.in_ok-turn_of.ensures.moves w.if-branch.true w.moved-is
      | else-branch w ↦ loop_else _ _ _ _ _ _ (λ (x : World) (k : ℕ). IsStuck c.args.job.now x k) c.loop-r.r c.loop-r.invariant.1 c.loop-r.invariant.2 c.in_ok-turn_of.ensures.moves w.if-branch.false w.moved-is (c.in_ok-turn_of.ensures.stuck w.if-branch.false)
    ] in
    (c.in_ok-turn_of.ensures.same_job, both.0, both.1)
