use Rattle.std.proofs.Common.{Bool, cond, true, subst, ◌∙◌}
use Rattle.ulfm_world.proofs.Common.{Moves}
use Rattle.ulfm_world.proofs.Moves.{turned, turned-stuck}
use Rattle.ulfm_replay.proofs.rounds.turn_of.Goals as goal

pub returns-then-polled-clause-moves : goal.returns-then-polled-clause-moves
returns-then-polled-clause-moves c =
    let t = c.in-Ok.ensures in
    subst (λ (p : Bool). Moves c.args.job.now c.args.rounds.now.world c.turn.new.hands.world (cond p true c.in-Ok.moved)) c.if-polled.true (turned _ _ _ _ _ _ c.requires.same_job t.1.1 t.1.2 t.2.1)

pub returns-clause-moves : goal.returns-clause-moves
returns-clause-moves c =
    let t = c.in-Ok.ensures in
    let M : Bool → Type 0 = λ (p : Bool). Moves c.args.job.now c.args.rounds.now.world c.turn.new.hands.world (cond p true c.in-Ok.moved) in
    subst M c.if-polled.false (turned _ _ _ _ _ _ c.requires.same_job t.1.1 t.1.2 t.2.1)

pub returns-clause-stuck : goal.returns-clause-stuck
returns-clause-stuck c = λ still.
    let t = c.in-Ok.ensures in
    turned-stuck _ _ _ _ _ _ (t.1.1 ∙ c.requires.same_job) t.1.0 (subst (λ (p : Bool). Moves t.0.job.now t.0.world c.turn.new.hands.world p) c.if-polled.false t.2.1) (t.3 still).0 (t.3 still).1 (t.2.2 c.if-polled.false)
