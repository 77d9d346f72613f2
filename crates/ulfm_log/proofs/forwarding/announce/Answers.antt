use Rattle.std.proofs.Common.{◌≡◌, ◌<◌, eqb, refl, ap, arith, ◌∙◌, ◌&&◌, not}
use Rattle.ulfm_log.proofs.Common.{is_member, has, members_of, is_gone, announced}
use Rattle.ulfm_log.proofs.Held.{grows_alike}
use Rattle.ulfm_log.proofs.forwarding.announce.Goals as goal

pub returns : goal.returns
returns c = λ n log knows members.
    let entrance = c.args.entrance in
    let told = c.put_each.ensures in
    let to = has c.intersection.result in
    grows_alike (announced n c.args.me log entrance) told
    (λ d h.
    let small : d < 8 = omega (arith, h, told.size, c.requires.small) in
    let same : to d ≡ (is_member (members_of n log entrance.topic.context.number) d && (not (eqb c.args.me d) && not (is_gone log d))) =
    c.intersection.ensures d ∙ ap (λ b. b && has c.addressees-addressees.result d) (members d) ∙ ap (λ b. is_member (members_of n log entrance.topic.context.number) d && b) (c.addressees-addressees.ensures d small ∙ ap (λ b. not (eqb c.args.me d) && not b) (knows d)) in
    rw same refl)
