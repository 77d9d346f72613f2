use Rattle.std.proofs.Common.{◌≡◌, ◌<◌, ℕ, take, length}
use Rattle.ulfm_log.proofs.Common.{entry_at, listed_of}
use Rattle.ulfm_log.proofs.entrances.listed.Given as goal

abbrev pub invariant-loop-entry : goal.invariant-loop-entry
invariant-loop-entry l = (length l.listed ≡ 8) × ((r : ℕ) → r < 8 → entry_at l.listed r ≡ listed_of l.fn.me.number (take l.entry-index l.log) l.topic r)
