use Rattle.std.proofs.Common.{◌≡◌, flat_map, map}
use Rattle.std.specs.List.{range_with_len}
use Rattle.ulfm_run_reply.specs.Brief.{lines_seen, rank_spots}
use Rattle.ulfm_run_reply.specs.inside.Tallied.{AreFewAt, unseen}
use Rattle.ulfm_run_reply.proofs.lines_at.spots_of.Given as goal

abbrev pub invariant-loop-rank : goal.invariant-loop-rank
invariant-loop-rank l = (map lines_seen l.found.items ≡ map unseen (flat_map (rank_spots l.job) (range_with_len 0 l.rank))) × AreFewAt 0 l.found.items
