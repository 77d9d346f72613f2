-- The headline: what the reports of a job's ranks tell, in every schedule.
use Rattle.std.specs.Prelude.{◌≡◌, ℕ, List, length}
use Rattle.ulfm_base.specs.Lists.{InPlace, at}
use Rattle.ulfm_script.specs.Deciding.{Known}
use Rattle.ulfm_job.specs.Job.{JobView}
use Rattle.ulfm_answer.specs.Report.{Report}
use Rattle.ulfm_report_laws.specs.Agreement.{AgreementsAreTrue}
use Rattle.ulfm_report_laws.specs.Answers.{AllFollowScripts, AllAnswersFollow, AllAgree}
use Rattle.ulfm_report_laws.specs.Causes.{GoneHaveStopped, RevokedByARank}
use Rattle.ulfm_report_laws.specs.Flow.{Inboxes, Flows}
use Rattle.ulfm_report_laws.specs.Order.{DecisionsAreProposals, ExclusionsComeLater, FailuresComeLater, HaveOneOrder, LettersComeLater, RevocationsComeLater}
use Rattle.ulfm_report_laws.specs.Reader.{IsFaithful, AllHasCome}
use Rattle.ulfm_report_laws.specs.Reports.{IsEach}
use Rattle.ulfm_report_laws.specs.Rest.{IsAtRest, KnowsStopped, AgreesOnRevoked}
use Rattle.ulfm_report_laws.specs.Decisions.{AdoptOwn, AdoptOne, AreTrue, EnterOnce, HasOneGroup, NoneIsForeign, ProposesEach}

-- Where nothing waits for any running rank: each of them knows each stopped one, and all agree on revocations. Where all running
-- members of a communicator entered its shrink, or one agreement on it, each of them has a proposal there. What running ranks sent to one another has come.
pub record KnowAtRest (reports : List Report) : Type 0 where
  pub known : KnowsStopped reports
  pub agreed : AgreesOnRevoked reports
  pub proposed : ProposesEach reports
  pub come : AllHasCome reports

-- What an engine has to produce: a report for each rank, in rank order, whose script was played; items flow between each
-- ordered pair of ranks; each answer is its step's answer by the one lawful pairing of the rank's log, where a decision is the
-- one that is known for this rank; no two decisions on one topic are known, and those adopted are true of what ranks did;
-- none is refused as not for its rank to adopt; and all logs have one order.
pub record AreProduced (job : JobView) (inboxes : Inboxes) (knows : List Known) (reports : List Report) : Type 0 where
  pub each : IsEach job reports
  pub known_each : IsEach job knows
  pub order : InPlace (λ (report : Report). report.rank.me) reports
  pub scripts : AllFollowScripts job reports
  pub flow : Flows inboxes reports
  pub answers : AllAnswersFollow knows reports
  pub agreed : AllAgree knows
  pub decisions : AreTrue reports
  pub none_foreign : NoneIsForeign reports
  pub one_order : HaveOneOrder reports

-- The headline. What a rank took from each sender is, once and in order, a beginning of what that sender sent. All logs have one order,
-- in which nothing is taken before it is owed, and no decision adopted before some rank proposed it. Receives are paired with letters by
-- the one lawful pairing; after a revocation no receive there is paired; wildcards pend exactly at unacknowledged known failures. Who is
-- known to have failed has stopped, and what is revoked some rank's own call revoked. Ranks enter each shrink and each agreement once.
-- Those that decided on one topic hold one decision, survivors in order, and have one group. No step is refused since the decision isn't
-- one for its rank to adopt. Those told of one round of agreement are told one value, the AND of the flags of all members but those
-- missing, who stopped. Each rank went through its script, and the reports stand in rank order. What they tell of letters is true of
-- what was sent. At rest all running ranks know what happened.
pub record LawfulReport (job : JobView) (inboxes : Inboxes) (knows : List Known) (reports : List Report) : Type 0 where
  pub each : IsEach job reports
  pub flow : Flows inboxes reports
  pub one_order : HaveOneOrder reports
  pub known_each : IsEach job knows
  pub answers : AllAnswersFollow knows reports
  pub agreed : AllAgree knows
  pub gone : GoneHaveStopped reports
  pub revoked : RevokedByARank reports
  pub entered : EnterOnce reports
  pub own : AdoptOwn knows reports
  pub decisions : AreTrue reports
  pub none_foreign : NoneIsForeign reports
  pub one_decision : AdoptOne reports
  pub one_group : HasOneGroup reports
  pub agreements : AgreementsAreTrue reports
  pub scripts : AllFollowScripts job reports
  pub order : InPlace (λ (report : Report). report.rank.me) reports
  pub reader : IsFaithful reports
  pub rest : IsAtRest inboxes reports → KnowAtRest reports

-- What the reports of ranks tell together so far, whatever the schedule and whether or not scripts ended: all that lawful reports tell, but how
-- ranks go through the scripts of a job. Each rank counts as many ranks as there are reports.
pub record LawfulSoFar (inboxes : Inboxes) (knows : List Known) (reports : List Report) : Type 0 where
  pub known_each : length knows ≡ length reports
  pub counted : (k : ℕ) (told : Report) → at reports k told → told.rank.ranks ≡ length reports
  pub order : InPlace (λ (report : Report). report.rank.me) reports
  pub flow : Flows inboxes reports
  pub one_order : HaveOneOrder reports
  pub answers : AllAnswersFollow knows reports
  pub agreed : AllAgree knows
  pub gone : GoneHaveStopped reports
  pub revoked : RevokedByARank reports
  pub entered : EnterOnce reports
  pub own : AdoptOwn knows reports
  pub decisions : AreTrue reports
  pub none_foreign : NoneIsForeign reports
  pub one_decision : AdoptOne reports
  pub one_group : HasOneGroup reports
  pub agreements : AgreementsAreTrue reports
  pub reader : IsFaithful reports
  pub rest : IsAtRest inboxes reports → KnowAtRest reports

-- By these times of all entries what is taken was sent before, and so were revoked, stopped and proposed what is.
pub record CausesComeFirst (reports : List Report) (time : ℕ → ℕ → ℕ) : Type 0 where
  pub letters : LettersComeLater reports time
  pub revocations : RevocationsComeLater reports time
  pub failures : FailuresComeLater reports time
  pub exclusions : ExclusionsComeLater reports time
  pub proposals : DecisionsAreProposals reports time

-- The reports are lawful, with something left in inboxes and some decisions known for each rank.
pub record IsLawful (job : JobView) (reports : List Report) : Type 0 where
  pub inboxes : Inboxes
  pub knows : List Known
  pub lawful : LawfulReport job inboxes knows reports
