use Rattle.std.proofs.Common.{◌≡◌, ◌++◌, Some, map}
use Rattle.std.specs.List.{range_with_len}
use Rattle.ulfm_run_reply.specs.inside.Tallied.{AreFewAt, unseen}
use Rattle.ulfm_run_reply.specs.Brief.{lines_seen}
use Rattle.ulfm_run_reply.proofs.lines_at.push_spots.Given as goal

abbrev pub invariant-loop-step : goal.invariant-loop-step
invariant-loop-step l =
    (map lines_seen l.found.items ≡ map lines_seen l.fn.found.items ++ map unseen (map (λ k. (l.rank, Some k)) (range_with_len 0 l.step))) × AreFewAt 0 l.found.items
