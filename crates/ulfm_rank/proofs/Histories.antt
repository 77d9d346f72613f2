-- What one more entry adds to the history.
use Rattle.std.proofs.Common.{◌≡◌, List, [], ◌∷◌, ◌++◌}
use Rattle.ulfm_rank.proofs.Common.{Entry, events_by, history_of}
use Rattle.ulfm_log.proofs.Gather.{gathered-push}

pub history-push : (log : List Entry) (e : Entry) → history_of (log ++ e ∷ []) ≡ history_of log ++ events_by log (history_of log) e
history-push log e = gathered-push events_by [] log e
