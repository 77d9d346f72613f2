use Rattle.std.proofs.Common.{eqb, refl, ap, arith, ◌∙◌, ◌&&◌, not}
use Rattle.ulfm_log.proofs.Common.{passed_on}
use Rattle.ulfm_log.proofs.Held.{grows_alike}
use Rattle.ulfm_log.proofs.forwarding.forward.Goals as goal

pub returns : goal.returns
returns c = λ log knows first.
    grows_alike (passed_on c.args.me log c.args.context) c.put_each.ensures
    (λ d h.
    let to = c.addressees.ensures d (omega (arith, h, c.put_each.ensures.size, c.requires.small)) ∙ ap (λ b. not (eqb c.args.me d) && not b) (knows d) in
    rw (to, first) refl)
