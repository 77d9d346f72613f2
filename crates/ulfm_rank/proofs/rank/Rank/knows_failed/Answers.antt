use Rattle.std.proofs.Common.{ap, ◌∙◌}
use Rattle.ulfm_rank.proofs.Common.{is_gone, RankView}
use Rattle.ulfm_rank.proofs.Known.{knows_gone}
use Rattle.ulfm_rank.proofs.rank.Rank.knows_failed.Goals as goal

pub returns : goal.returns
returns c = c.is_known.ensures ∙ knows_gone c.self.invariant.follows.faults c.args.peer.number ∙ ap (λ (v : RankView). is_gone v.state.log c.args.peer.number) c.self.view_is
