use Rattle.std.proofs.Common.{rules, ℕ, ◌==◌, not}
use Rattle.std.proofs.lemmas.Fn.{filter_same}
use Rattle.ulfm_match.proofs.Common.{Pattern}
use Rattle.ulfm_match.proofs.recent.drop_receives.Goals as goal

pub returns-clause-left : goal.returns-clause-left
returns-clause-left c = filter_same _ (λ (y : ℕ × Pattern). not (y.1.context.number == c.args.context.number)) _ (λ x b f' k. search rules) _ _ c.retain.ensures.filtered
