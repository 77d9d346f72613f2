-- What ranks do in a schedule: an object each.
use Rattle.std.specs.Prelude.{ℕ, List, [], ◌++◌, Option, Some, None, codes}
use Rattle.std.specs.Fmt.{decimal}
use Rattle.ulfm_answer.specs.declared.answer.StepAnswer.{StepAnswer}
use Rattle.ulfm_base.specs.declared.context.Context.{Context}
use Rattle.ulfm_base.specs.declared.tag.Tag.{Tag}
use Rattle.ulfm_job.specs.Job.{JobView}
use Rattle.ulfm_job.specs.Words.{told_at}
use Rattle.ulfm_forms.specs.Call.{comm_json}
use Rattle.ulfm_forms.specs.Trace.{answered_json, head_json}
use Rattle.ulfm_schedule.specs.declared.cargo.Cargo.{Cargo}
use Rattle.ulfm_schedule.specs.declared.cargo.Cargo.TheVariants.{Message, Notice, Revocation, Shrink, Agreement}
use Rattle.ulfm_schedule.specs.declared.moved.Deed.{Deed}
use Rattle.ulfm_schedule.specs.declared.moved.Deed.TheVariants.{Left, Took, Opened, Answered}
use Rattle.ulfm_schedule.specs.declared.moved.Move.{Move}
use Rattle.ulfm_reader.specs.declared.name.Name.{Name}

-- a message
abbrev pub letter_json : Tag → ℕ → Context → List ℕ
letter_json tag bytes comm = codes "{\"is\":\"message\",\"tag\":" ++ decimal tag.number ++ codes ",\"length\":" ++ decimal bytes ++ comm_json comm ++ codes "}"

-- what else is told of a communicator
abbrev pub kind_json : List ℕ → Context → List ℕ
kind_json word comm = codes "{\"is\":\"" ++ word ++ codes "\"" ++ comm_json comm ++ codes "}"

-- what an item brings: a message, a notice, a revocation, or the entry into a shrink or an agreement
abbrev pub cargo_json : Cargo → List ℕ
cargo_json (Message tag bytes comm) = letter_json tag bytes comm
cargo_json Notice = codes "{\"is\":\"notice\"}"
cargo_json (Revocation comm) = kind_json (codes "revocation") comm
cargo_json (Shrink comm) = kind_json (codes "shrink") comm
cargo_json (Agreement comm) = kind_json (codes "agreement") comm

-- an item that leaves the rank r for d
abbrev pub left_json : ℕ → ℕ → Cargo → List ℕ
left_json r d cargo = codes "{\"rank\":" ++ decimal r ++ codes ",\"event\":\"left\",\"to\":" ++ decimal d ++ codes ",\"item\":" ++ cargo_json cargo

-- an item of the rank s that r takes
abbrev pub took_json : ℕ → ℕ → Cargo → List ℕ
took_json r s cargo = codes "{\"rank\":" ++ decimal r ++ codes ",\"event\":\"took\",\"from\":" ++ decimal s ++ codes ",\"item\":" ++ cargo_json cargo

-- the step k of the rank r that is opened
abbrev pub opened_json : List Name → JobView → ℕ → ℕ → List ℕ
opened_json names job r k = head_json names r k (told_at job r k) ++ codes ",\"event\":\"opened\""

-- the step k of the rank r that is answered
abbrev pub done_json : List Name → JobView → ℕ → ℕ → StepAnswer → List ℕ
done_json names job r k answer = answered_json names r k (told_at job r k) answer ++ codes ",\"event\":\"answered\""

-- what the rank r does, but for the end of the object
abbrev pub deed_json : List Name → JobView → ℕ → Deed → List ℕ
deed_json names job r (Left d cargo) = left_json r d cargo
deed_json names job r (Took s cargo) = took_json r s cargo
deed_json names job r (Opened k call) = opened_json names job r k
deed_json names job r (Answered k report) = done_json names job r k report.answer

-- the key of the message that is taken, or that a step got
abbrev pub message_json : Option ℕ → List ℕ
message_json None = []
message_json (Some number) = codes ",\"message\":" ++ decimal number

-- a move
abbrev pub move_json : List Name → JobView → Move → List ℕ
move_json names job m = deed_json names job m.rank m.deed ++ message_json m.message ++ codes "}"
