use Rattle.std.proofs.Common.{rules, ℕ, ◌==◌, not}
use Rattle.std.proofs.lemmas.Fn.{filter_same}
use Rattle.ulfm_match.proofs.Common.{Pattern}
use Rattle.ulfm_match.proofs.recent.drop_numbered.Goals as goal

pub returns-clause-left : goal.returns-clause-left
returns-clause-left c = filter_same _ (λ (y : ℕ × Pattern). not (y.0 == c.args.number)) _ (λ x b f' k. search rules) _ _ c.retain.ensures.filtered
