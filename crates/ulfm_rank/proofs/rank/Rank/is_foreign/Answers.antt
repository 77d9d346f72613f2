use Rattle.std.proofs.Common.{ap, sym, subst, ◌∙◌}
use Rattle.ulfm_rank.proofs.Common.{HasEntries, State, RankView, is_foreign}
use Rattle.ulfm_rank.proofs.rank.Rank.is_foreign.Goals as goal

pub returns : goal.returns
returns c =
    let seen = ap (λ (v : RankView). v.state) c.self.view_is in
    let me = ap (λ (s : State). s.me) seen in
    let heard = subst (λ k. HasEntries k c.args.self.now.state.log c.args.topic c.listed.result) (sym me) c.listed.ensures.entries in
    c.is_foreign.ensures c.args.self.now.state.log heard ∙ ap (λ k. is_foreign k c.args.group.now c.args.self.now.state.log c.args.topic c.args.decision.now) me
