use Rattle.std.proofs.Common.{◌≡◌, ◌≤◌, map}
use Rattle.ulfm_reader.proofs.WrittenOut.{line_view, view}
use Rattle.ulfm_reader.specs.Guards.{guards_in, number_in}
use Rattle.ulfm_reader.proofs.guard.guards_in.Given as goal

abbrev pub invariant-loop-at : goal.invariant-loop-at
invariant-loop-at l =
    (l.guards.items ≡ guards_in (map view l.items) (map line_view l.lines) l.rank l.at)
    × (l.number ≡ number_in (map line_view l.lines) l.rank l.at)
    × (l.number ≤ l.at)
