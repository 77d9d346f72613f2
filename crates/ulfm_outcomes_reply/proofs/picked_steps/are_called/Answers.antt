use Rattle.std.proofs.Common.{map, string_bytes, sym, ◌∙◌}
use Rattle.ulfm_reader.proofs.Keys.{list_any-map}
use Rattle.ulfm_outcomes_reply.specs.Chosen.{is_called}
use Rattle.ulfm_outcomes_reply.proofs.picked_steps.are_called.Goals as goal

pub returns : goal.returns
returns c = c.some_called.ensures ∙ sym (list_any-map (is_called (map string_bytes c.args.texts.now)) (λ p. p.now) c.args.parts.now)
