-- Reports at rest, and what running ranks then know.
use Rattle.std.specs.Prelude.{◌≡◌, ℕ, true, ◌<◌, List, []}
use Rattle.ulfm_base.specs.Lists.{at}
use Rattle.ulfm_log.specs.Facts.{is_gone, is_revoked}
use Rattle.ulfm_log.specs.State.{outbox}
use Rattle.ulfm_answer.specs.Report.{Report}
use Rattle.ulfm_report_laws.specs.Flow.{Inboxes, inbox_of}
use Rattle.ulfm_report_laws.specs.Reports.{IsRunning, HasStopped}

-- nothing waits for the rank d: its inbox is empty, and so is each outbox towards it
pub record IsServed (inboxes : Inboxes) (reports : List Report) (d : ℕ) : Type 0 where
  pub inbox : inbox_of inboxes d ≡ []
  pub outboxes : (s : ℕ) (sender : Report) → at reports s sender → d < sender.rank.ranks → outbox sender.rank d ≡ []

-- nothing waits for any running rank
abbrev pub IsAtRest : Inboxes → List Report → Type 0
IsAtRest inboxes reports = (d : ℕ) (report : Report) → at reports d report → IsRunning report → IsServed inboxes reports d

-- each running rank knows each rank that stopped (ULFM, failure notification)
abbrev pub KnowsStopped : List Report → Type 0
KnowsStopped reports =
    (s d : ℕ) (sender receiver : Report) → at reports s sender → at reports d receiver → HasStopped sender → IsRunning receiver
    → is_gone receiver.rank.log s ≡ true

-- a context that one running rank has revoked is revoked at each running rank (ULFM, revocation)
abbrev pub AgreesOnRevoked : List Report → Type 0
AgreesOnRevoked reports =
    (s d c : ℕ) (sender receiver : Report) → at reports s sender → at reports d receiver → IsRunning sender → IsRunning receiver
    → is_revoked sender.rank.log c ≡ true → is_revoked receiver.rank.log c ≡ true
