use Rattle.std.proofs.Common.{◌≡◌, ◌∙◌, subst, sym}
use Rattle.ulfm_base.specs.declared.context.Context.{Context}
use Rattle.ulfm_script.specs.Deciding.{IsReadyToDecide}
use Rattle.ulfm_script.proofs.Adopted.{honest-decided}
use Rattle.ulfm_run.proofs.Common.{none-some, same_Some}
use Rattle.ulfm_run.proofs.Polled.{polls-decide, ready-next}
use Rattle.ulfm_run.proofs.polling.decide.Goals as goal

pub returns-in-Answered-clause-polls : goal.returns-in-Answered-clause-polls
returns-in-Answered-clause-polls g c =
    polls-decide c.args.job.now c.args.me c.args.player.now c.decide.new.self _ _ _ _ c.requires.sound c.requires.follows c.requires.running c.in-Answered.ensures.decides c.decide.ensures.room

pub returns-in-Answered-clause-honest : goal.returns-in-Answered-clause-honest
returns-in-Answered-clause-honest g c = λ h. honest-decided _ _ _ c.args.player.now.player _ c.decide.new.self.player h c.requires.running c.in-Answered.ensures.decides

pub returns-in_default-clause-undecided : goal.returns-in_default-clause-undecided
returns-in_default-clause-undecided g c = λ _ comm ready. none-some comm (sym c.in_default.is ∙ c.decides_on.ensures ∙ ready-next c.args.me c.args.player.now.player comm c.requires.follows c.requires.next ready)

pub returns-in-NotReady-clause-undecided : goal.returns-in-NotReady-clause-undecided
returns-in-NotReady-clause-undecided g c = λ _ comm ready.
    let same : comm ≡ c.in-Some.comm = same_Some comm c.in-Some.comm (sym (ready-next c.args.me c.args.player.now.player comm c.requires.follows c.requires.next ready) ∙ sym c.decides_on.ensures ∙ c.in-Some.is) in
    c.in-NotReady.ensures.decides.not_ready (subst (λ (on : Context). IsReadyToDecide c.args.player.now.player on) same ready)
