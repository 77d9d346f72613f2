use Rattle.std.proofs.Common.{Bool, Option, Some, ap, sym, ◌∙◌}
use Rattle.ulfm_base.specs.declared.topic.Topic.{Topic}
use Rattle.ulfm_log.specs.Proposal.{last_round}
use Rattle.ulfm_run.proofs.Decided.{round_topic_of}
use Rattle.ulfm_run.proofs.step_topic.topic_of.Goals as goal

pub returns : goal.returns
returns c =
    let log = c.args.log.now in
    let comm = c.in_ok-context.context in
    ap (λ (t : Topic). let o : Option Topic = Some t in o) (c.last_round.ensures ∙ ap (λ (b : Bool). last_round log b comm) c.is_agreement.ensures)
    ∙ sym (round_topic_of log c.args.step.now comm (sym c.decides_on.ensures ∙ c.in_ok-context.was))
