-- What ranks know of failures and of revocations has its cause in what ranks did (ULFM).
use Rattle.std.specs.Prelude.{◌≡◌, ◌==◌, ℕ, Bool, true, false, List}
use Rattle.std.specs.List.{list_any}
use Rattle.ulfm_base.specs.Lists.{at}
use Rattle.ulfm_log.specs.declared.entry.Entry.{Entry}
use Rattle.ulfm_log.specs.declared.entry.Entry.TheVariants.{Revoked}
use Rattle.ulfm_log.specs.Facts.{is_gone, is_revoked}
use Rattle.ulfm_answer.specs.Report.{Report}
use Rattle.ulfm_report_laws.specs.Reports.{HasStopped}

-- Who is known to have failed has stopped: no failure is suspected wrongly (ULFM, failure notification).
abbrev pub GoneHaveStopped : List Report → Type 0
GoneHaveStopped reports =
    (s d : ℕ) (sender receiver : Report) → at reports s sender → at reports d receiver → is_gone receiver.rank.log s ≡ true → HasStopped sender

-- an entry tells that the rank's own call revoked the context c
abbrev pub is_call_to_revoke : ℕ → Entry → Bool
is_call_to_revoke c (Revoked context) = context.number == c
is_call_to_revoke c _ = false

-- some rank reports that its own call revoked the context c
pub record RevokedByCall (reports : List Report) (c : ℕ) : Type 0 where
  pub rank : ℕ
  pub told : Report
  pub reported : at reports rank told
  pub called : list_any (is_call_to_revoke c) told.rank.log ≡ true

-- Each context that is revoked at a rank was revoked by some rank's own call (ULFM, revocation).
abbrev pub RevokedByARank : List Report → Type 0
RevokedByARank reports = (d c : ℕ) (told : Report) → at reports d told → is_revoked told.rank.log c ≡ true → RevokedByCall reports c
