use Rattle.std.proofs.Common.{rules, ℕ, ◌==◌, not}
use Rattle.std.proofs.lemmas.Fn.{filter_same}
use Rattle.ulfm_match.proofs.Common.{Letter}
use Rattle.ulfm_match.proofs.recent.drop_letters.Goals as goal

pub returns-clause-left : goal.returns-clause-left
returns-clause-left c = filter_same _ (λ (y : ℕ × Letter). not (y.1.envelope.context.number == c.args.context.number)) _ (λ x b f' k. search rules) _ _ c.retain.ensures.filtered
