use Rattle.std.proofs.Common.{◌∙◌, ap}
use Rattle.ulfm_rank.proofs.Common.{RankView, rounds_of}
use Rattle.ulfm_rank.proofs.rank.Rank.entered.Goals as goal

pub returns : goal.returns
returns c = c.on.ensures ∙ c.self.invariant.tells.counts c.args.agrees c.args.context.number ∙ ap (λ (v : RankView). rounds_of v.state.log c.args.agrees c.args.context.number) c.self.view_is
