use Rattle.std.proofs.Common.{subst, nat_eq}
use Rattle.ulfm_rank.proofs.Common.{RankView, IsInStep, get}
use Rattle.ulfm_rank.proofs.rank.Rank.receives.Goals as goal

pub returns : goal.returns
returns c =
    let a = c.self.inside in
    subst (λ (v : RankView). IsInStep v.state.ranks v.state.log a.matcher (get nat_eq a.requests)) c.self.view_is c.self.invariant.follows.in_step
