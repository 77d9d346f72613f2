use Rattle.std.proofs.Common.{◌≡◌, ◌≤◌, drop, length, map}
use Rattle.ulfm_reader.proofs.WrittenOut.{line_view, view}
use Rattle.ulfm_reader.specs.Shared.{shared_behind, shared_out}
use Rattle.ulfm_reader.proofs.shared.shared_out.Given as goal

abbrev pub invariant-loop-place : goal.invariant-loop-place
invariant-loop-place l =
    (shared_behind l.ranks l.place (map line_view l.lines.items) (map view (drop l.place l.steps)) ≡ shared_out l.ranks (map view l.steps))
    × (l.place ≤ length l.lines.items)
    × (length l.lines.items ≤ 256)
