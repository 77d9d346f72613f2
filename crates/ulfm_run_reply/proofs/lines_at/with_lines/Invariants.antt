use Rattle.std.proofs.Common.{◌≡◌, ◌+◌, ◌++◌, map}
use Rattle.std.specs.Vec.Iter.{into_iter_items}
use Rattle.ulfm_run_reply.specs.Brief.{lines_seen, with_run}
use Rattle.ulfm_run_reply.specs.inside.Tallied.{AreFewAt}
use Rattle.ulfm_run_reply.proofs.lines_at.with_lines.Given as goal

abbrev pub invariant-loop-spot : goal.invariant-loop-spot
invariant-loop-spot l = record {
  counted : map lines_seen l.found.items ++ map (with_run l.form l.asked.names.items l.asked.job l.reports) (map lines_seen (into_iter_items l.spot-iterator))
      ≡ map (with_run l.form l.asked.names.items l.asked.job l.reports) (map lines_seen l.fn.spots.items);
  few : AreFewAt (l.done + 1) l.found.items;
  left : AreFewAt l.done (into_iter_items l.spot-iterator);
}
