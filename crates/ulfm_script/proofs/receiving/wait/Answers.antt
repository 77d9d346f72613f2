use Rattle.std.proofs.Common.{sym, ap, ◌∙◌}
use Rattle.ulfm_log.specs.State.{RankView}
use Rattle.ulfm_script.proofs.Common.{Tests}
use Rattle.ulfm_script.proofs.Waits.{only_tested, answers_wait, stays_open, tests_by}
use Rattle.ulfm_script.proofs.receiving.wait.Goals.{After-answer_of}
use Rattle.ulfm_script.proofs.receiving.wait.Goals as goal

told : (c : After-answer_of) → Tests c.args.done.now c.args.rank.now.state c.args.req c.in-Ok.answer c.test.new.self.state
told c =
    let x = c.in-Ok.ensures in
    tests_by (sym c.request_at.ensures ∙ c.in-Some.is) x.request x.pairing x.answer (only_tested _ _ _ _ x.released (λ e. ap (λ (v : RankView). v.state) (x.stays e)))

pub returns-in-Ok-clause-answers : goal.returns-in-Ok-clause-answers
returns-in-Ok-clause-answers c = rw c.answer_of.ensures (answers_wait _ _ _ _ _ (told c))

pub returns-in-Ok-clause-stays_open : goal.returns-in-Ok-clause-stays_open
returns-in-Ok-clause-stays_open c = rw c.answer_of.ensures (stays_open _ _ _ _ _ (told c))
