use Rattle.std.proofs.Common.{◌≡◌, take}
use Rattle.ulfm_command_line.proofs.copied.copied_filed.Given as goal

abbrev pub invariant-loop-one : goal.invariant-loop-one
invariant-loop-one l = l.copies.items ≡ take l.one-index l.fn.filed
