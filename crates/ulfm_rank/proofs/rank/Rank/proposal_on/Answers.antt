use Rattle.std.proofs.Common.{rules, ◌≡◌, ap, arith, length, not, sym, subst, ◌∙◌, None}
use Rattle.std.proofs.lemmas.List.{get_or_default}
use Rattle.ulfm_rank.proofs.Common.{Knows, State, RankView, is_some}
use Rattle.ulfm_log.proofs.Entries.{entered_shrinks, entered_here}
use Rattle.ulfm_log.proofs.Grouped.{members_found}
use Rattle.ulfm_rank.proofs.Known.{knows_gone}
use Rattle.ulfm_rank.proofs.rank.Rank.proposal_on.Goals as goal

pub proposed-requires-clause-has_shrink : goal.proposed-requires-clause-has_shrink
proposed-requires-clause-has_shrink c =
    let r = c.args.self.now.state in
    let me = ap (λ (v : RankView). v.state.me) c.self.view_is in
    let here = entered_here c.self.inside.me.number r.me r.log c.args.topic c.listed-entries.result me c.self.inside.me.in_range c.listed-entries.ensures.entries in
    let size : length c.listed-entries.result ≡ 8 = search rules in
    let read = get_or_default c.listed-entries.result c.self.inside.me.number c.index-entries-self.result None (omega (arith, size, c.self.inside.me.in_range)) in
    entered_shrinks r.log c.args.topic (sym here ∙ sym (ap is_some read) ∙ c.is_none.ensures ∙ ap not c.if-is_none.false)

pub returns-clause-proposal : goal.returns-clause-proposal
returns-clause-proposal c =
    let r = c.args.self.now.state in
    let seen = ap (λ (v : RankView). v.state) c.self.view_is in
    let me = ap (λ (v : RankView). v.state.me) c.self.view_is in
    let here = entered_here c.self.inside.me.number r.me r.log c.args.topic c.listed-entries.result me c.self.inside.me.in_range c.listed-entries.ensures.entries in
    let size : length c.listed-entries.result ≡ 8 = search rules in
    let read = get_or_default c.listed-entries.result c.self.inside.me.number c.index-entries-self.result None (omega (arith, size, c.self.inside.me.in_range)) in
    let knows : Knows c.args.self.now.state.log c.known.result = subst (λ (s : State). Knows s.log c.known.result) seen (λ x. c.known.ensures x ∙ knows_gone c.self.invariant.follows.faults x) in
    let members = members_found r.ranks r.log c.args.topic.context.number c.in_ok-group.group.now c.in_ok-group.ensures.group in
    c.proposed.ensures r knows c.listed-entries.ensures.entries members (sym here ∙ sym (ap is_some read) ∙ c.is_none.ensures ∙ ap not c.if-is_none.false)
