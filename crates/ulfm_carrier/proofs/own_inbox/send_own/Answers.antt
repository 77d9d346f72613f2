use Rattle.std.proofs.Common.{ap, sym, ◌∙◌, inr}
use Rattle.ulfm_carrier.proofs.Rule.{sends, sees_own}
use Rattle.ulfm_carrier.proofs.own_inbox.send_own.Goals as goal

pub push_as-pushed-requires-clause-rule : goal.push_as-pushed-requires-clause-rule
push_as-pushed-requires-clause-rule g c =
    let is = c.unite.ensures.own.1 in
    let role = ap (λ v. v.role) is in
    let from = ap (λ v. v.from) is ∙ c.requires.own.2 in
    (sends _ _ _ (c.args.source, c.args.item) (inr role) (sym from) c.requires.item, sees_own _ _ role)
