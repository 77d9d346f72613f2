use Rattle.std.proofs.Common.{sym}
use Rattle.ulfm_command_line.specs.AskedFor.{asked_view}
use Rattle.ulfm_command_line.proofs.place_by_names.settled.Goals as goal

pub returns : goal.returns
returns c = λ bytes is. c.settled_by.ensures bytes (asked_view c.args.read) is (sym c.as_slice.ensures.value)
