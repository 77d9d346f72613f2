-- What steps wait for: an object each.
use Rattle.std.specs.Prelude.{ℕ, List, ◌++◌, Option, Some, None, codes}
use Rattle.std.specs.Fmt.{decimal}
use Rattle.ulfm_answer.specs.declared.answer.StepAnswer.TheVariants.{Unfinished}
use Rattle.ulfm_base.specs.declared.context.Context.{Context}
use Rattle.ulfm_base.specs.declared.tag.Tag.{Tag}
use Rattle.ulfm_job.specs.Job.{JobView}
use Rattle.ulfm_job.specs.Words.{told_at}
use Rattle.ulfm_forms.specs.Call.{comm_json, tag_json}
use Rattle.ulfm_forms.specs.Trace.{answered_json, head_json}
use Rattle.ulfm_reader.specs.declared.name.Name.{Name}
use Rattle.ulfm_schedule.specs.declared.bearer.Bearer.{Bearer}
use Rattle.ulfm_schedule.specs.declared.bearer.Fate.{Fate}
use Rattle.ulfm_schedule.specs.declared.bearer.Fate.TheVariants.{Answered, Open, Unreached}
use Rattle.ulfm_schedule.specs.declared.need.Need.{Need}
use Rattle.ulfm_schedule.specs.declared.need.Need.TheVariants.{Message, Shrink, Agreement}
use Rattle.ulfm_schedule.specs.declared.wait.Wait.{Wait}

-- a message of the rank s
abbrev pub letter_from_json : ℕ → Option Tag → Context → List ℕ
letter_from_json s tag comm = codes "{\"is\":\"message\",\"from\":" ++ decimal s ++ tag_json tag ++ comm_json comm ++ codes "}"

-- its entry into what is decided about a communicator
abbrev pub entry_from_json : List ℕ → ℕ → Context → List ℕ
entry_from_json word s comm = codes "{\"is\":\"" ++ word ++ codes "\",\"from\":" ++ decimal s ++ comm_json comm ++ codes "}"

-- what is waited for, of the rank s
abbrev pub need_json : Need → ℕ → List ℕ
need_json (Message tag comm) s = letter_from_json s tag comm
need_json (Shrink comm) s = entry_from_json (codes "shrink") s comm
need_json (Agreement comm) s = entry_from_json (codes "agreement") s comm

-- the step k of the rank s that would bring it, with its answer: an open one is unfinished, and one that isn't reached has none
abbrev pub bearer_json : List Name → JobView → ℕ → ℕ → Fate → List ℕ
bearer_json names job s k (Answered answer) = answered_json names s k (told_at job s k) answer
bearer_json names job s k Open = answered_json names s k (told_at job s k) Unfinished
bearer_json names job s k Unreached = head_json names s k (told_at job s k) ++ codes ",\"answer\":null"

-- who would bring it: a step of the rank s, or none
abbrev pub bringer_json : List Name → JobView → ℕ → Option Bearer → List ℕ
bringer_json names job s None = codes "null"
bringer_json names job s (Some bearer) = bearer_json names job s bearer.step bearer.fate ++ codes "}"

-- what a step waits for
abbrev pub wait_json : List Name → JobView → Wait → List ℕ
wait_json names job w =
    head_json names w.rank w.step (told_at job w.rank w.step) ++ codes ",\"waits_for\":" ++ need_json w.need w.on ++ codes ",\"brought_by\":" ++ bringer_json names job w.on w.bearer ++ codes "}"
