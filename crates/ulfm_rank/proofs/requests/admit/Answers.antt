use Rattle.std.proofs.Common.{sym, subst, ◌∙◌}
use Rattle.ulfm_rank.proofs.Common.{fate_of, TracksEnd}
use Rattle.ulfm_rank.proofs.Steps.{AdmitsTo, admitted, admitted_over}
use Rattle.ulfm_rank.proofs.requests.admit.Goals as goal
use Rattle.ulfm_rank.proofs.requests.admit.Goals.{then-gone, else-gone}

pub returns-clause-tracks : goal.returns-clause-tracks
returns-clause-tracks c h r t =
    let p = c.args.pattern in
    let letter = c.post-letter.result.1 in
    let said = c.post-letter.ensures.tracks h r t in
    let here = c.post-letter.ensures.number ∙ t.remains.count in
    subst (AdmitsTo c.args.gone p h r c.if-gone.matcher) (sym c.fate_of.ensures)
    (elim c.if-gone.branch [
      | then-gone w ↦
          subst (λ m. AdmitsTo c.args.gone p h r m (fate_of letter c.args.gone)) (sym w.matcher-is)
          (subst (λ b. AdmitsTo b p h r w.withdraw.new.self (fate_of letter b)) (sym w.if-gone.true)
          (admitted_over p h r t.lawful c.post-letter.new.self w.withdraw.new.self letter said
          (subst (λ k. TracksEnd k c.post-letter.new.self w.withdraw.new.self) here w.withdraw.ensures.tracks)))
      | else-gone w ↦
          subst (λ m. AdmitsTo c.args.gone p h r m (fate_of letter c.args.gone)) (sym w.matcher-is)
          (subst (λ b. AdmitsTo b p h r c.post-letter.new.self (fate_of letter b)) (sym w.if-gone.false)
          (admitted p h r t.lawful c.post-letter.new.self letter said))
    ])
