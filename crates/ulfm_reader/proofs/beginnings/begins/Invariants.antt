use Rattle.std.proofs.Common.{◌≡◌, drop}
use Rattle.ulfm_job.specs.Begins.{begins}
use Rattle.ulfm_reader.proofs.beginnings.begins.Given as goal

abbrev pub invariant-loop-word : goal.invariant-loop-word
invariant-loop-word l = begins l.fn.text l.fn.words ≡ begins l.left (drop l.word-index l.fn.words)
