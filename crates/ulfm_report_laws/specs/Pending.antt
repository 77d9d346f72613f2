-- What a revocation, and a known failure, mean for receives, shrinks and agreements (ULFM, revocation and failure notification).
use Rattle.std.specs.Prelude.{◌≡◌, ◌≢◌, ◌<◌, ◌++◌, ℕ, Bool, true, false, List, length, take, Some}
use Rattle.ulfm_base.specs.Lists.{at}
use Rattle.ulfm_base.specs.declared.error.CallError.TheVariants.{Revoked}
use Rattle.ulfm_base.specs.declared.pattern.Pattern.{Pattern}
use Rattle.ulfm_base.specs.declared.request_id.RequestId.{RequestId}
use Rattle.ulfm_match.specs.History.{PostAt}
use Rattle.ulfm_match.specs.Pairing.{LawfulPairing, Pairing, Pairs}
use Rattle.ulfm_log.specs.declared.entry.Entry.{Entry}
use Rattle.ulfm_log.specs.Facts.{is_revoked}
use Rattle.ulfm_log.specs.State.{State}
use Rattle.ulfm_rank.specs.Answer.{IsLeftWaiting, IsRequest}
use Rattle.ulfm_rank.specs.History.{history_of}
use Rattle.ulfm_job.specs.declared.step.Step.TheVariants.{Wait}
use Rattle.ulfm_answer.specs.Report.{Report}
use Rattle.ulfm_answer.specs.declared.answer.StepAnswer.TheVariants.{Pending, Refused, Unfinished}
use Rattle.ulfm_answer.specs.declared.answer.StepReport.{StepReport}
use Rattle.ulfm_script.specs.Answered.{StoodAt}
use Rattle.ulfm_script.specs.Calls.{request_at}
use Rattle.ulfm_script.specs.Player.{is_joint, step_report}

-- After a communicator is revoked at a rank, by a call of its own or by a notice that it took, nothing there is paired: of each pair the receive was
-- posted and the message came before (ULFM, revocation).
abbrev pub RevokedPairsNone : List Report → Type 0
RevokedPairsNone reports =
    (d i b : ℕ) (told : Report) (front rest : List Entry) (pattern : Pattern) (pairing : Pairing) → at reports d told → front ++ rest ≡ told.rank.log
    → is_revoked front pattern.context.number ≡ true → LawfulPairing (history_of told.rank.log) pairing → PostAt (history_of told.rank.log) i pattern
    → Pairs pairing i b → (i < length (history_of front)) × (b < length (history_of front))

-- no shrink and no agreement is refused because its communicator is revoked (ULFM, shrink and agree)
abbrev pub RevokedRefusesNone : List Report → Type 0
RevokedRefusesNone reports =
    (r k : ℕ) (told : Report) (step : StepReport) → at reports r told → at told.steps k step → is_joint step.step ≡ true → step.answer ≢ Refused Revoked

-- As the rank stood at a place of its log, the receive that its step `req` posted, before its step k, got no message and didn't end, and it pends or
-- not. It pends where it is of any source, and a member of its communicator is known to have failed and isn't acknowledged (ULFM, failure notification).
pub record WaitsAt (told : Report) (k req place : ℕ) (pending : Bool) : Type 0 where
  pub then : State
  pub stood : StoodAt told.rank place then
  pub id : RequestId
  pub posted : request_at (take k told.steps) req ≡ Some id
  pub post_place : ℕ
  pub pattern : Pattern
  pub request : IsRequest then.log id.number post_place pattern
  pub pairing : Pairing
  pub lawful : LawfulPairing (history_of then.log) pairing
  pub waits : IsLeftWaiting then.ranks then.log pairing post_place pattern pending

-- A wait is told `pending` where its receive pends, and left open where it waits and doesn't.
pub record PendsExactly (reports : List Report) : Type 0 where
  pub pending : (r k req place polls : ℕ) (told : Report) → at reports r told → at told.steps k (step_report (Wait req) Pending place polls) → WaitsAt told k req place true
  pub left : (r k req place polls : ℕ) (told : Report) → at reports r told → at told.steps k (step_report (Wait req) Unfinished place polls) → WaitsAt told k req place false
