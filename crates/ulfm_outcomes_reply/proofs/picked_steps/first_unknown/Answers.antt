use Rattle.std.proofs.Common.{map, not, string_bytes, ◌∙◌}
use Rattle.ulfm_outcomes_reply.specs.Chosen.{is_called}
use Rattle.ulfm_outcomes_reply.proofs.Judged.{find-map}
use Rattle.ulfm_outcomes_reply.proofs.picked_steps.first_unknown.Goals as goal

pub returns : goal.returns
returns c = c.first_without.ensures ∙ find-map (λ part. not (is_called (map string_bytes c.args.texts.now) part)) (λ p. p.now) c.args.parts.now
