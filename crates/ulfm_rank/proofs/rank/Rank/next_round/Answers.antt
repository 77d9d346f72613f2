use Rattle.std.proofs.Common.{◌∙◌, ap}
use Rattle.ulfm_base.specs.Topic.{topic_on}
use Rattle.ulfm_rank.proofs.rank.Rank.next_round.Goals as goal

pub returns : goal.returns
returns c = c.round_on.ensures ∙ ap (topic_on c.args.agrees c.args.context) c.entered.ensures
