use Rattle.std.proofs.Common.{inl}
use Rattle.ulfm_carrier.proofs.Rule.{takes, hears_of}
use Rattle.ulfm_carrier.proofs.inbox.receive.Goals as goal

pub pop_as-requires-clause-rule : goal.pop_as-requires-clause-rule
pop_as-requires-clause-rule g c = (takes _ _ (inl c.requires.1), hears_of _ _ c.requires.1)
