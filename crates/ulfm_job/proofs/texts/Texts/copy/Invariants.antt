use Rattle.std.proofs.Common.{◌≡◌, take}
use Rattle.ulfm_job.proofs.texts.Texts.copy.Given as goal

abbrev pub invariant-loop-text : goal.invariant-loop-text
invariant-loop-text l = l.texts.items ≡ take l.text-index l.fn.self
