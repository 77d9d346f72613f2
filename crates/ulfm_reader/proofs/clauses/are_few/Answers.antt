use Rattle.std.proofs.Common.{sym, ◌∙◌}
use Rattle.ulfm_reader.proofs.Asking.{few}
use Rattle.ulfm_reader.proofs.Steps.{items_len-view}
use Rattle.ulfm_reader.proofs.clauses.are_few.Goals as goal

pub returns-then-not-is_empty-clause-exact : goal.returns-then-not-is_empty-clause-exact
returns-then-not-is_empty-clause-exact c = rw (items_len-view c.args.values.now) (few _ (sym c.is_empty.ensures ∙ c.if-not-is_empty.true))
