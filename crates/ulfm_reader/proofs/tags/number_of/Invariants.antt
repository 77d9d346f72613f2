use Rattle.std.proofs.Common.{◌≡◌, ◌≤◌, drop}
use Rattle.ulfm_reader.specs.Iterations.{digits_from}
use Rattle.ulfm_reader.proofs.tags.number_of.Given as goal

abbrev pub invariant-loop-digit : goal.invariant-loop-digit
invariant-loop-digit l = (digits_from 0 l.digits ≡ digits_from l.number (drop l.digit-index l.digits)) × (l.number ≤ 32767)
