use Rattle.std.proofs.Common.{◌≡◌, map, replicate, take, None}
use Rattle.once_cell.specs.declared.race.note.Note.{Note}
use Rattle.ulfm_board.specs.inside.Trail.{Slots, names_of, slots_known}
use Rattle.ulfm_board.proofs.trail.Trail.new.Given as goal

abbrev pub invariant-loop-chunk : goal.invariant-loop-chunk
invariant-loop-chunk l =
    (map (λ (n : Note Slots). n.cell) l.chunks.items ≡ take l.chunk-index (names_of l.register)) × (map slots_known l.chunks.items ≡ replicate l.chunk-index None)
