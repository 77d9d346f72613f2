use Rattle.std.proofs.Common.{rules, ◌≡◌, ◌++◌, ◌∷◌, []}
use Rattle.ulfm_world.proofs.Common.{All-push}
use Rattle.ulfm_replay.specs.Sweep.{IsSwept, place_of}
use Rattle.ulfm_replay.proofs.Swept.{next_place}
use Rattle.ulfm_replay.proofs.sweeps.sweep_rank.Goals as goal

pub loop-at-preserved : goal.loop-at-preserved
loop-at-preserved c =
    let grown : c.push.new.self.items ≡ c.loop-at.lines.items ++ c.in_ok-line.line ∷ [] = search rules in
    let place : place_of c.in_ok-line.line ≡ (c.args.rank, c.loop-at.at) = c.in_ok-line.ensures.place in
    rw grown (next_place c.args.rank c.loop-at.at c.loop-at.lines.items c.args.lines.now.items c.in_ok-line.line c.loop-at.invariant.0 place, λ all. All-push (IsSwept c.args.job.now) _ _ (c.loop-at.invariant.1 all) c.in_ok-line.ensures.swept)
