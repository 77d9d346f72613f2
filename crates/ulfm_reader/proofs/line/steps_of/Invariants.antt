use Rattle.std.proofs.Common.{◌≡◌, map, take}
use Rattle.ulfm_reader.proofs.WrittenOut.{line_view, view}
use Rattle.ulfm_reader.specs.Line.{steps_of}
use Rattle.ulfm_reader.proofs.line.steps_of.Given as goal

abbrev pub invariant-loop-line : goal.invariant-loop-line
invariant-loop-line l = map view l.steps.items ≡ steps_of (map line_view (take l.line-index l.lines))
