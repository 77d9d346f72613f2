use Rattle.std.proofs.Common.{◌≡◌, ◌++◌, flat_map, map, string_bytes, take}
use Rattle.ulfm_run_reply.specs.Brief.{differing_lines, lines_seen}
use Rattle.ulfm_run_reply.proofs.brief.push_differing.Given as goal

abbrev pub invariant-loop-spot : goal.invariant-loop-spot
invariant-loop-spot l =
    string_bytes l.text ≡ string_bytes l.fn.text ++ flat_map (differing_lines l.form l.asked.names.items l.asked.job l.times) (map lines_seen (take l.spot-index l.spots))
