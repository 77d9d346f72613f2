-- What the steps of each rank were answered, and with what decisions.
use Rattle.std.specs.Prelude.{ℕ, List}
use Rattle.ulfm_base.specs.Lists.{at}
use Rattle.ulfm_base.specs.declared.topic.Topic.{Topic}
use Rattle.ulfm_board.specs.Known.{BothAgree, known_at}
use Rattle.ulfm_script.specs.Answered.{AnswersFollow}
use Rattle.ulfm_script.specs.Deciding.{Known}
use Rattle.ulfm_job.specs.Job.{JobView}
use Rattle.ulfm_script.specs.Played.{FollowsScript}
use Rattle.ulfm_answer.specs.Report.{Report}

-- each rank went through its script
abbrev pub AllFollowScripts : JobView → List Report → Type 0
AllFollowScripts job reports = (k : ℕ) (report : Report) → at reports k report → FollowsScript job k report

-- each answer of each rank is its step's answer on the log's beginning up to its place, by the one lawful pairing and by the
-- decisions that are known for this rank
abbrev pub AllAnswersFollow : List Known → List Report → Type 0
AllAnswersFollow knows reports =
    (k : ℕ) (report : Report) (known : Known) → at reports k report → at knows k known → AnswersFollow known report

-- at these two places no two decisions on one topic are known
abbrev pub AgreeAt : List Known → ℕ → ℕ → Type 0
AgreeAt knows i j =
    (one other : Known) → at knows i one → at knows j other → (topic : Topic) → BothAgree (known_at one topic) (known_at other topic)

-- nowhere two decisions on one topic are known
abbrev pub AllAgree : List Known → Type 0
AllAgree knows = (i j : ℕ) → AgreeAt knows i j
