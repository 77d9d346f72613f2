use Rattle.std.proofs.Common.{◌∙◌, ap}
use Rattle.ulfm_rank.proofs.Common.{rounds_of, listed_of, RankView}
use Rattle.ulfm_log.proofs.Sifted.{listed_sifted}
use Rattle.ulfm_log.specs.Decisive.{is_current}
use Rattle.ulfm_rank.proofs.rank.Rank.listed.Goals as goal

pub returns-clause-entries : goal.returns-clause-entries
returns-clause-entries c = λ r small.
    let a = c.self.inside in
    let current = ap (λ (v : RankView). is_current (rounds_of v.state.log) c.args.topic) c.self.view_is ∙ c.requires in
    c.listed.ensures.entries r small ∙ ap (λ l. listed_of a.me.number l c.args.topic r) (c.deref.ensures.value ∙ c.self.invariant.tells.rows) ∙ listed_sifted (rounds_of a.log.items) c.args.topic current a.me.number a.log.items r
    ∙ ap (λ (v : RankView). listed_of v.state.me v.state.log c.args.topic r) c.self.view_is
