use Rattle.std.proofs.Common.{◌≡◌, take}
use Rattle.ulfm_command_line.proofs.copied.copied_provisos.Given as goal

abbrev pub invariant-loop-proviso : goal.invariant-loop-proviso
invariant-loop-proviso l = l.copies.items ≡ take l.proviso-index l.fn.provisos
