use Rattle.std.proofs.Common.{◌≡◌, flat_map, map, string_bytes, take}
use Rattle.ulfm_run_reply.specs.Brief.{common_lines, lines_seen}
use Rattle.ulfm_run_reply.proofs.brief.common_text.Given as goal

abbrev pub invariant-loop-spot : goal.invariant-loop-spot
invariant-loop-spot l = string_bytes l.text ≡ flat_map (common_lines l.times) (map lines_seen (take l.spot-index l.spots))
