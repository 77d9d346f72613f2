use Rattle.std.proofs.Common.{◌∙◌, ap, sym, not}
use Rattle.ulfm_log.proofs.Foreign.{about}
use Rattle.ulfm_log.proofs.adopting.is_foreign.Goals as goal

pub returns : goal.returns
returns c = λ log heard.
    c.contradicts.ensures c.args.me.number log c.args.topic heard
    ∙ sym (about c.args.me.number c.args.group.now log c.args.topic c.args.decision.now (ap not (sym c.is_same.ensures ∙ c.if-not-is_same.false)) (c.is_same-2.ensures.0 c.if-not-is_same-2.false) (sym c.contains.ensures ∙ c.if-not-contains.false))
