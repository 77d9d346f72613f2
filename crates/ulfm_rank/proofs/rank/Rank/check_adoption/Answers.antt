use Rattle.std.proofs.Common.{sym, ◌∙◌}
use Rattle.ulfm_log.proofs.Foreign.{own_affair}
use Rattle.ulfm_rank.proofs.rank.Rank.check_adoption.Goals as goal

pub returns-clause-about : goal.returns-clause-about
returns-clause-about c =
    let r = c.args.self.now.state in
    (own_affair r.me c.in_ok-group.group.now r.log c.args.topic c.args.decision.now (sym c.is_foreign.ensures ∙ c.if-is_foreign.false)).about
