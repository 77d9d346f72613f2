use Rattle.std.proofs.Common.{◌≡◌, ◌++◌, string_bytes, take}
use Rattle.ulfm_schedule.specs.Words.{moves_text}
use Rattle.ulfm_schedule.proofs.schedule.push_moves.Given as goal

abbrev pub invariant-loop-moved : goal.invariant-loop-moved
invariant-loop-moved l = string_bytes l.text ≡ string_bytes l.initial.text ++ moves_text l.job (take l.moved-index l.moves)
