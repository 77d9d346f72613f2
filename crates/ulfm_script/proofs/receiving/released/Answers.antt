use Rattle.std.proofs.Common.{sym, ◌∙◌}
use Rattle.ulfm_script.proofs.Waits.{release_said}
use Rattle.ulfm_script.proofs.receiving.released.Goals as goal

pub unreachable-requires : goal.unreachable-requires
unreachable-requires c = release_said c.args.answer c.requires (sym c.answer_of.ensures ∙ c.in-None.is)
