use Rattle.std.proofs.Common.{ap}
use Rattle.ulfm_tests.specs.Inventing.{known_by}
use Rattle.ulfm_tests.proofs.run.inventor.new_inventor.Goals as goal

pub returns-clause-nothing_known : goal.returns-clause-nothing_known
returns-clause-nothing_known c = ap (known_by c.args.number) c.note-note.ensures.1
