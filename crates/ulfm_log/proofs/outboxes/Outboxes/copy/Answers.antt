use Rattle.std.proofs.Common.{ap, ◌∙◌}
use Rattle.ulfm_log.proofs.Common.{Boxes}
use Rattle.ulfm_log.proofs.Slots.{same_contents}
use Rattle.ulfm_log.proofs.outboxes.Outboxes.copy.Goals as goal

pub returns : goal.returns
returns c = same_contents _ _ c.in_ok-slots.ensures.cases.0 ∙ ap (λ (v : Boxes). v.boxes) c.self.view_is
