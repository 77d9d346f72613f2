use Rattle.std.proofs.Common.{◌∙◌, refl, sym, subst, ◌≡◌, arith}
use Rattle.ulfm_rank.proofs.Signed.{from_signed}
use Rattle.ulfm_run.proofs.Common.{Player, Took, with_rank, logged}
use Rattle.ulfm_run.proofs.Working.{carried}
use Rattle.ulfm_run.proofs.Joining.{moves-taken, moves-returned}
use Rattle.ulfm_run.proofs.at_work.AtWorkHands.take_one.Goals as goal

pub take-requires-clause-from : goal.take-requires-clause-from
take-requires-clause-from g c = from_signed c.in-Some.source c.in-Some.item c.in-Some.ensures.sender.1

pub returns-in-Some-clause-moves : goal.returns-in-Some-clause-moves
returns-in-Some-clause-moves g c =
    let t = c.in-Some.ensures in let joined = c.requires.fits.joined in
    let W : Player → Type 0 = λ (p : Player). c.take.new.self.player ≡ with_rank p (logged p.rank (Took c.in-Some.source c.in-Some.item)) in (
      refl,
      refl,
      carried
          (moves-taken c.args.self.now.worker.player c.take.new.self c.pop.new.self c.in-Some.source c.in-Some.item (sym c.is_stopped.ensures ∙ c.if-is_stopped.false) (omega (arith, t.sender.0, joined.counted)) joined
          (subst W c.prepare.ensures.player c.take.ensures.player) (c.take.ensures.room ∙ c.prepare.ensures.room) t.name.0 t.name.1 t.name.2 t.name.3 t.pushed t.taken.0 t.taken.1),
    )

pub returns-in-None-clause-moves : goal.returns-in-None-clause-moves
returns-in-None-clause-moves g c =
    let t = c.in-None.ensures in (
      refl,
      refl,
      carried
          (moves-returned c.args.self.now.worker.player c.prepare.new.self c.pop.new.self 0 c.requires.fits.joined c.prepare.ensures.player c.prepare.ensures.room
          t.name.0 t.name.1 t.name.2 t.name.3 t.taken (λ p _. t.pushed p) (t.pushed 0)),
    )
