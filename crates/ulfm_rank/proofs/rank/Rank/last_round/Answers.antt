use Rattle.std.proofs.Common.{◌∙◌, ◌-◌, ap}
use Rattle.ulfm_base.specs.Topic.{topic_on}
use Rattle.ulfm_rank.proofs.rank.Rank.last_round.Goals as goal

pub returns : goal.returns
returns c = c.round_on.ensures ∙ ap (topic_on c.args.agrees c.args.context) (c.saturating_sub-round.ensures ∙ ap (λ k. k - 1) c.entered.ensures)
