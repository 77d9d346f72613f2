use Rattle.std.proofs.Common.{rules, ◌≡◌, sym, ◌∙◌, refl, length}
use Rattle.ulfm_log.proofs.Common.{false≢true}
use Rattle.ulfm_log.proofs.Proposing.{IsTally, has_small, no_proposal, is_proposal}
use Rattle.ulfm_log.proofs.proposal.proposed.Goals as goal

pub returns-then-not-is_subset : goal.returns-then-not-is_subset
returns-then-not-is_subset c = λ rank knows heard members entered.
    let size : length c.entries_of-listed.result ≡ 8 = search rules in
    let eight : length c.members-members.result.members ≡ 8 = search rules in
    let t : IsTally c.args.group.now c.args.known c.args.entries.now c.entries_of-listed.result c.failures_in-failures.result c.members-members.result c.listed_or.result =
    record { size = size; small = has_small c.members-members.result eight; are_members = c.members-members.ensures; kept = c.entries_of-listed.ensures; failed = c.failures_in-failures.ensures; accounts = c.listed_or.ensures } in
    no_proposal rank.me rank.log c.args.topic (rw (← members) at t) knows heard (λ within. false≢true (sym c.if-not-is_subset.true ∙ c.is_subset.ensures.1 within))

pub returns : goal.returns
returns c = λ rank knows heard members entered.
    let size : length c.entries_of-listed.result ≡ 8 = search rules in
    let eight : length c.members-members.result.members ≡ 8 = search rules in
    let t : IsTally c.args.group.now c.args.known c.args.entries.now c.entries_of-listed.result c.failures_in-failures.result c.members-members.result c.listed_or.result =
    record { size = size; small = has_small c.members-members.result eight; are_members = c.members-members.ensures; kept = c.entries_of-listed.ensures; failed = c.failures_in-failures.ensures; accounts = c.listed_or.ensures } in
    is_proposal rank.ranks rank.me rank.log c.args.topic _ (rw (← members) at t)
    knows heard (c.is_subset.ensures.0 c.if-not-is_subset.false) entered refl (c.copied.ensures ∙ sym members) c.intersection-excluded.ensures
    (rw (← members) at c.excluding.ensures)
