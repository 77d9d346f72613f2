use Rattle.std.proofs.Common.{rules, ◌≡◌, true, false, ap, sym, ◌∙◌, arith, Some, slice_get}
use Rattle.ulfm_rank.proofs.Common.{is_revoked, is_gone, find_group, group_of, State, RankView}
use Rattle.ulfm_rank.proofs.Known.{knows_gone}
use Rattle.ulfm_log.proofs.Made.{found_group, member_of_world}
use Rattle.ulfm_rank.proofs.Sendable.{sendable}
use Rattle.ulfm_rank.proofs.rank.Rank.destination.Goals as goal

pub returns-then-is_known-clause-refused : goal.returns-then-is_known-clause-refused
returns-then-is_known-clause-refused c =
    let seen = ap (λ (v : RankView). v.state) c.self.view_is in
    let r = c.args.self.now.state in
    let still : is_revoked r.log c.args.comm.context.number ≡ false = ap (λ (s : State). is_revoked s.log c.args.comm.context.number) (sym seen) ∙ sym (c.self.invariant.follows.faults.marks c.args.comm.context.number) ∙ sym c.is_revoked.ensures ∙ c.if-is_revoked.false in
    let gone : is_gone r.log c.in_ok-to.to.number ≡ true = ap (λ (s : State). is_gone s.log c.in_ok-to.to.number) (sym seen) ∙ sym (knows_gone c.self.invariant.follows.faults c.in_ok-to.to.number) ∙ sym c.is_known.ensures ∙ c.if-is_known.true in
    let named : slice_get c.in_ok-group.group.now c.args.dest ≡ Some c.in_ok-to.to.number = search rules in
    sendable r c.args.comm.context.number c.args.dest c.args.size c.in_ok-group.group.now c.in_ok-to.to.number true c.in_ok-group.ensures.accepted c.in_ok-group.ensures.group still named c.if-size-gt1024.false gone

pub returns-clause-accepted : goal.returns-clause-accepted
returns-clause-accepted c =
    let seen = ap (λ (v : RankView). v.state) c.self.view_is in
    let r = c.args.self.now.state in
    let still : is_revoked r.log c.args.comm.context.number ≡ false = ap (λ (s : State). is_revoked s.log c.args.comm.context.number) (sym seen) ∙ sym (c.self.invariant.follows.faults.marks c.args.comm.context.number) ∙ sym c.is_revoked.ensures ∙ c.if-is_revoked.false in
    let gone : is_gone r.log c.in_ok-to.to.number ≡ false = ap (λ (s : State). is_gone s.log c.in_ok-to.to.number) (sym seen) ∙ sym (knows_gone c.self.invariant.follows.faults c.in_ok-to.to.number) ∙ sym c.is_known.ensures ∙ c.if-is_known.false in
    let named : slice_get c.in_ok-group.group.now c.args.dest ≡ Some c.in_ok-to.to.number = search rules in
    sendable r c.args.comm.context.number c.args.dest c.args.size c.in_ok-group.group.now c.in_ok-to.to.number false c.in_ok-group.ensures.accepted c.in_ok-group.ensures.group still named c.if-size-gt1024.false gone

pub returns-clause-inside : goal.returns-clause-inside
returns-clause-inside c =
    let a = c.self.inside in
    let seen = ap (λ (v : RankView). v.state) c.self.view_is in
    let named : slice_get c.in_ok-group.group.now c.args.dest ≡ Some c.in_ok-to.to.number = search rules in
    let comms = c.self.invariant.follows.communicators in
    let found : find_group c.args.comm.context.number a.communicators.made ≡ Some c.in_ok-group.group.now =
    found_group c.args.comm.context.number comms ∙ ap (λ (s : State). group_of s.ranks s.log c.args.comm.context.number) seen ∙ c.in_ok-group.ensures.group in
    let below = member_of_world a.ranks c.args.comm.context.number a.communicators.made c.in_ok-group.group.now c.args.dest c.in_ok-to.to.number comms.of_world found named in
    omega (arith, below, ap (λ (s : State). s.ranks) seen)
