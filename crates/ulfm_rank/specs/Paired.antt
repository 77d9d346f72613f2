-- The one lawful pairing of a log's history.
use Rattle.std.specs.Prelude.{◌≡◌, ℕ, List, ◌++◌, ◌↔◌, length}
use Rattle.ulfm_match.specs.History.{IsWellFormed}
use Rattle.ulfm_match.specs.Pairing.{Pairing, Pairs, LawfulPairing, pairs_below}
use Rattle.ulfm_log.specs.declared.entry.Entry.{Entry}
use Rattle.ulfm_rank.specs.History.{history_of}

-- The history of a log can happen. It has a lawful pairing, and no other. Its pairs inside a beginning of the log are the
-- lawful pairing there.
pub record IsPaired (log : List Entry) : Type 0 where
  pub well_formed : IsWellFormed (history_of log)
  pub pairing : Pairing
  pub lawful : LawfulPairing (history_of log) pairing
  pub only : (other : Pairing) → LawfulPairing (history_of log) other → (i b : ℕ) → Pairs pairing i b ↔ Pairs other i b
  pub cut : (front rest : List Entry) → front ++ rest ≡ log → LawfulPairing (history_of front) (pairs_below (length (history_of front)) pairing)
