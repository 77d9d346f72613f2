use Rattle.std.proofs.Common.{refl, ap, ◌∙◌}
use Rattle.ulfm_world.proofs.Common.{start_world}
use Rattle.ulfm_world.specs.declared.room.Room.TheVariants.{PerInbox}
use Rattle.ulfm_world.proofs.Ends.{came-start, came-moves}
use Rattle.ulfm_world.proofs.Lawful.{made-replay}
use Rattle.ulfm_replay.proofs.rounds.play.Goals as goal

pub loop-rounds-init : goal.loop-rounds-init
loop-rounds-init c =
    (refl, came-start c.args.job.now c.in-Ok.world (c.in-Ok.ensures.ok ∙ ap (λ n. start_world n (PerInbox c.capacity.result)) c.ranks.ensures.exact ∙ ap (λ k. start_world c.args.job.now.ranks (PerInbox k)) c.capacity.ensures.exact))

pub loop-rounds-preserved : goal.loop-rounds-preserved
loop-rounds-preserved c = (c.in_ok-round.ensures.same_job, came-moves _ _ _ _ c.loop-rounds.invariant.1 c.in_ok-round.ensures.moves)

pub returns : goal.returns
returns c =
    let ranges = c.ranks.ensures.ranges in let stuck = c.in_ok-round.ensures.stuck c.if-branch.false in
    let came = came-moves c.args.job.now c.loop-rounds.rounds.world c.round.new.rounds.world c.in_ok-round.field-0 c.loop-rounds.invariant.1 c.in_ok-round.ensures.moves in record {
      settled = made-replay c.args.job.now c.round.new.rounds.world ranges came stuck ranges.some_room c.in_ok-reports.ensures.told;
      refused = _;
    }
