use Rattle.std.proofs.Common.{ap, ◌∙◌}
use Rattle.std.specs.List.{fold}
use Rattle.ulfm_outcomes_list.specs.Text.{codes_found, with_answer}
use Rattle.ulfm_outcomes_list.specs.Union.{answers_of, with_answers_of}
use Rattle.ulfm_outcomes_list.proofs.Telling.{fold-on}
use Rattle.ulfm_outcomes_list.proofs.union.answer_set.Goals as goal

pub loop-one-preserved : goal.loop-one-preserved
loop-one-preserved c =
    fold-on (with_answers_of c.args.job.now c.args.rank c.args.k) c.args.listed.now c.loop-one.one-index c.one-item.result c.loop-one.answers.keys _ (answers_of c.args.job.now c.args.listed.now c.args.rank c.args.k)
    c.loop-one-test.true c.one-item.is c.loop-one.invariant
    (c.in_ok-add_answers.ensures ∙ ap (λ k. fold with_answer c.loop-one.answers.keys (codes_found c.one-item.result.found c.args.rank k)) c.number_at-number.ensures)
