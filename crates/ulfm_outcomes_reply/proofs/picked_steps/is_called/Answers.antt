use Rattle.std.proofs.Common.{string_bytes, sym, ◌∙◌}
use Rattle.ulfm_reader.proofs.Keys.{list_any-map}
use Rattle.ulfm_outcomes_reply.specs.Chosen.{is_part}
use Rattle.ulfm_outcomes_reply.proofs.picked_steps.is_called.Goals as goal

pub returns : goal.returns
returns c = c.has_text.ensures ∙ sym (list_any-map (is_part c.args.part.now) string_bytes c.args.texts.now)
