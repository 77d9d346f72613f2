use Rattle.std.proofs.Common.{◌≡◌, ◌+◌, ◌≤◌, ◌++◌, length, map, take}
use Rattle.ulfm_reader.proofs.WrittenOut.{line, line_view, view}
use Rattle.ulfm_reader.specs.Members.{in_table}
use Rattle.ulfm_reader.specs.Ranks.{for_rank}
use Rattle.ulfm_reader.proofs.shared.push_shared.Given as goal

abbrev pub invariant-loop-rank : goal.invariant-loop-rank
invariant-loop-rank l =
    (map line_view l.lines.items ≡ map line_view l.fn.lines.items ++ map (line l.place) (map (λ r. in_table (λ ms. for_rank l.ranks ms r) (view l.step)) (take l.rank-index l.several)))
    × (length l.lines.items ≡ length l.fn.lines.items + l.rank-index)
    × (length l.lines.items ≤ 256)
