use Rattle.std.proofs.Common.{◌≡◌, ℕ, arith, refl, ap, sym, subst, ◌∙◌}
use Rattle.ulfm_rank.proofs.Signed.{front_signed}
use Rattle.ulfm_log.proofs.States.{comes-back}
use Rattle.ulfm_run.proofs.Common.{Player, with_rank, ComesFrom, State, returned}
use Rattle.ulfm_run.proofs.Working.{carried}
use Rattle.ulfm_run.proofs.Joining.{moves-pushed, moves-returned}
use Rattle.ulfm_run.proofs.at_work.AtWorkHands.push_one.Goals as goal

pub push-requires-clause-item : goal.push-requires-clause-item
push-requires-clause-item g c =
    let joined = c.requires.fits.joined in
    subst (λ (m : ℕ). ComesFrom m c.in-Some.item) (sym joined.placed) (front_signed c.args.self.now.worker.player.player.rank c.args.dest c.in-Some.item _ joined.signed c.in-Some.ensures.leaves.front)

pub returns-in-Ok-clause-moves : goal.returns-in-Ok-clause-moves
returns-in-Ok-clause-moves g c =
    let t = c.in-Ok.ensures in (
      refl,
      refl,
      carried
          (moves-pushed c.args.self.now.worker.player c.take_out.new.self c.push.new.self c.requires.fits.joined (omega (arith, c.requires.inside, c.requires.fits.counted))
          c.in-Some.ensures.leaves c.in-Some.ensures.only c.in-Some.ensures.room t.name.0 t.name.1 t.name.2 t.name.3 t.taken t.others t.pushed),
    )

pub returns-in-Err-clause-moves : goal.returns-in-Err-clause-moves
returns-in-Err-clause-moves g c =
    let t = c.in-Err.ensures in let v = c.args.self.now.worker.player.player in
    let same : c.put_back.new.self.player ≡ v =
    c.put_back.ensures.player
    ∙ ap (λ (p : Player). with_rank p (returned c.take_out.new.self.player.rank c.args.dest)) c.in-Some.ensures.only
    ∙ ap (λ (r : State). with_rank v r) (comes-back v.rank c.take_out.new.self.player.rank c.args.dest c.in-Some.item c.in-Some.ensures.leaves) in (
      refl,
      refl,
      carried
          (moves-returned c.args.self.now.worker.player c.put_back.new.self c.push.new.self c.args.dest c.requires.fits.joined
          same (c.put_back.ensures.room ∙ c.in-Some.ensures.room) t.name.0 t.name.1 t.name.2 t.name.3 t.taken t.others t.pushed.1),
    )
