use Rattle.std.proofs.Common.{◌≡◌, Bool, Some, refl, ap, sym, subst, ◌∙◌}
use Rattle.ulfm_world.proofs.Common.{Player, World, player_at, Moves, next_open, IsUndecided}
use Rattle.ulfm_job.specs.Job.{decides_on}
use Rattle.ulfm_script.proofs.MeantAlong.{next-played}
use Rattle.ulfm_script.specs.Meant.{next_step, played_script}
use Rattle.ulfm_world.proofs.Moves.{moves-first}
use Rattle.ulfm_replay.proofs.rounds.polling.+poll.Goals as goal

pub returns-then-not-is_next_played-clause-moves : goal.returns-then-not-is_next_played-clause-moves
returns-then-not-is_next_played-clause-moves t c = moves-first _ _ _ _ _ c.in_ok-skip.ensures c.in_ok-poll.ensures.moves

pub call-requires-clause-undecided : goal.call-requires-clause-undecided
call-requires-clause-undecided t c =
    let same = (subst (λ (x : Bool). Moves c.args.job.now c.args.world.now c.decide.new.world x) c.if-decide.false c.decide.ensures.moves).stays refl in
    let j = c.args.job.now in
    let p = player_at c.args.world.now c.args.r in
    let next : next_step j c.args.r p.done ≡ Some c.in-Some.asked = ap (next_step j c.args.r) (sym (c.done.ensures ∙ ap (λ (x : Player). x.done) c.player.ensures)) ∙ sym c.in-Some.ensures in
    subst (λ (w : World). IsUndecided (player_at w c.args.r)) (sym same) (λ comm ready. c.decide.ensures.undecided c.if-decide.false comm
    (ap decides_on (next_open (played_script j c.args.r p.done) j.turns p c.in-Some.asked ready.asked (c.requires.follows c.args.r c.requires.inside).follows (next-played j c.args.r p.done ∙ next) ready.waits) ∙ ready.on) ready)
