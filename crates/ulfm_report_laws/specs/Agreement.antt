-- What a reader of reports may rely on about agreements: whose flags a value is made of, and who is missing (ULFM, agree).
use Rattle.std.specs.Prelude.{◌≡◌, ◌==◌, ◌<◌, ℕ, Bool, true, false, List, length, filter, take, Option, Some, None}
use Rattle.ulfm_base.specs.declared.context.Context.{Context}
use Rattle.ulfm_base.specs.declared.contribution.Contribution.{Contribution}
use Rattle.ulfm_base.specs.declared.decision.Decision.{Decision}
use Rattle.ulfm_base.specs.declared.rank_set.RankSet.{RankSet}
use Rattle.ulfm_base.specs.Decision.{and_all, entry_at, is_listed}
use Rattle.ulfm_base.specs.Group.{is_member}
use Rattle.ulfm_base.specs.Topic.{agreement_topic}
use Rattle.ulfm_rank.specs.Checks.{group_at}
use Rattle.ulfm_job.specs.declared.step.Step.{Step}
use Rattle.ulfm_job.specs.declared.step.Step.TheVariants.{Agree}
use Rattle.ulfm_answer.specs.declared.answer.StepAnswer.{StepAnswer}
use Rattle.ulfm_answer.specs.declared.answer.StepAnswer.TheVariants.{Agreed}
use Rattle.ulfm_answer.specs.declared.answer.StepReport.{StepReport}
use Rattle.ulfm_script.specs.Deciding.{missing_in}
use Rattle.ulfm_answer.specs.Report.{Report}
use Rattle.ulfm_report_laws.specs.Decisions.{HasEntered, StoppedAt}
use Rattle.ulfm_report_laws.specs.Reader.{IsStep}
use Rattle.ulfm_report_laws.specs.Reports.{HasAdopted, report_at}

-- a step that is answered so is an agreement on this communicator, and was told its value
abbrev pub ends_round_by : Context → Step → StepAnswer → Bool
ends_round_by comm (Agree flag on) (Agreed value missing) = on.number == comm.number
ends_round_by comm _ _ = false

-- the step of a report is an agreement on this communicator, and was told its value
abbrev pub ends_round_in : Context → StepReport → Bool
ends_round_in comm report = ends_round_by comm report.step report.answer

-- how many steps of a report before step k were told a value on a communicator: the number of the round that an agreement at
-- step k enters there, if it enters one
abbrev pub round_at : Report → ℕ → Context → ℕ
round_at report k comm = length (filter (ends_round_in comm) (take k report.steps))

-- the flag of a contribution, where there are both
abbrev pub flag_in : Option Contribution → Option ℕ
flag_in None = None
flag_in (Some brought) = brought.flag

-- The rank m entered a round of agreement on a communicator with this flag, which one of its steps in this round has.
pub record BroughtFlag (reports : List Report) (m : ℕ) (comm : Context) (round flag : ℕ) : Type 0 where
  pub known : RankSet
  pub entered : HasEntered (report_at reports m) (agreement_topic comm round) (record { known = known; flag = Some flag })
  pub step : ℕ
  pub said : StepAnswer
  pub asked : IsStep (report_at reports m) step (Agree flag comm) said
  pub in_round : round_at (report_at reports m) step comm ≡ round

-- an answer tells this value, and these members as missing
abbrev pub TellsValue : StepAnswer → ℕ → List ℕ → Type 0
TellsValue (Agreed value missing) told absent = (value ≡ told) × (missing.items ≡ absent)
TellsValue _ told absent = ⊥

-- A step that was told a value: an agreement of a rank, its flag and its communicator, the value, and the members told as missing.
pub record ToldValue (reports : List Report) : Type 0 where
  pub rank : ℕ
  pub step : ℕ
  pub flag : ℕ
  pub comm : Context
  pub value : ℕ
  pub missing : List ℕ
  pub said : StepAnswer
  pub inside : rank < length reports
  pub asked : IsStep (report_at reports rank) step (Agree flag comm) said
  pub tells : TellsValue said value missing

-- the round of agreement that such a step entered
abbrev pub round_of : (reports : List Report) → ToldValue reports → ℕ
round_of reports told = round_at (report_at reports told.rank) told.step told.comm

-- What a step was told of an agreement is right. Its rank adopted a decision on the round of this step, about the group that it has
-- for the communicator. The value is the AND of the listed flags. Missing are the members that aren't listed, by their positions.
-- The decision lists the rank with the step's flag. Each listed flag was brought into this round by its rank. Each member that isn't
-- listed stopped.
pub record IsAgreed (reports : List Report) (told : ToldValue reports) : Type 0 where
  pub decision : Decision
  pub adopted : HasAdopted (report_at reports told.rank) decision
  pub topic : decision.topic ≡ agreement_topic told.comm (round_of reports told)
  pub group : decision.old ≡ group_at (report_at reports told.rank).rank told.comm.number
  pub is_value : told.value ≡ and_all decision.entries
  pub is_missing : told.missing ≡ missing_in decision
  pub own : flag_in (entry_at decision.entries told.rank) ≡ Some told.flag
  pub listed : (m other : ℕ) → flag_in (entry_at decision.entries m) ≡ Some other
      → BroughtFlag reports m told.comm (round_of reports told) other
  pub unlisted : (m : ℕ) → is_member decision.old m ≡ true → is_listed decision.entries m ≡ false → StoppedAt reports m

-- what each step was told of an agreement is right, as above
abbrev pub AgreesRightly : List Report → Type 0
AgreesRightly reports = (told : ToldValue reports) → IsAgreed reports told

-- two steps that were told of one round of agreement on a communicator were told one value and one list
abbrev pub AgreeOnOne : List Report → Type 0
AgreeOnOne reports =
    (one other : ToldValue reports) → one.comm ≡ other.comm → round_of reports one ≡ round_of reports other
    → (one.value ≡ other.value) × (one.missing ≡ other.missing)

-- All that are told of one round of agreement are told one value and one list: the AND of the flags of all members but those in
-- the list, each of whom stopped.
pub record AgreementsAreTrue (reports : List Report) : Type 0 where
  pub rightly : AgreesRightly reports
  pub on_one : AgreeOnOne reports
