use Rattle.std.proofs.Common.{rules, ℕ, not}
use Rattle.std.proofs.lemmas.Fn.{filter_same}
use Rattle.ulfm_match.proofs.Common.{names, Pattern}
use Rattle.ulfm_match.proofs.recent.drop_named.Goals as goal

pub returns-clause-left : goal.returns-clause-left
returns-clause-left c = filter_same _ (λ (y : ℕ × Pattern). not (names y.1.source c.args.rank.number)) _ (λ x b f' k. search rules) _ _ c.retain.ensures.filtered
