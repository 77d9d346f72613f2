use Rattle.std.proofs.Common.{sym, inl}
use Rattle.ulfm_carrier.proofs.Rule.{sends}
use Rattle.ulfm_carrier.proofs.inbox.send.Goals as goal

pub push_as-requires-clause-rule : goal.push_as-requires-clause-rule
push_as-requires-clause-rule g c = (sends _ _ _ (c.args.source, c.args.item) (inl c.requires.out.1) (sym c.requires.out.2) c.requires.item, λ items views h here. tt)
