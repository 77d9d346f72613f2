-- What a schedule says in words.
use Rattle.std.specs.Prelude.{ℕ, Bool, true, false, List, [], ◌++◌, Option, Some, None, Vec, codes, length}
use Rattle.std.specs.Fmt.{decimal}
use Rattle.std.specs.List.{flat_map}
use Rattle.std.specs.declared.alloc.Global.{Global}
use Rattle.ulfm_base.specs.declared.item.Item.{Item}
use Rattle.ulfm_base.specs.declared.item.Item.TheVariants.{Letter as Mail, Gone, Revoke, Enter}
use Rattle.ulfm_base.specs.declared.topic.Purpose.{Purpose}
use Rattle.ulfm_base.specs.declared.topic.Purpose.TheVariants.{Shrink, Agree}
use Rattle.ulfm_job.specs.Job.{JobView}
use Rattle.ulfm_job.specs.Naming.{called_at}
use Rattle.ulfm_job.specs.declared.step.Step.{Step}
use Rattle.ulfm_script.specs.Player.{step_report}
use Rattle.ulfm_answer.specs.Trace.{answer_text, closing_line, step_line, step_lines}
use Rattle.ulfm_answer.specs.declared.answer.StepAnswer.TheVariants.{Unfinished}
use Rattle.ulfm_answer.specs.declared.answer.StepReport.{StepReport}
use Rattle.ulfm_schedule.specs.Values.{wait_text}
use Rattle.ulfm_schedule.specs.Waits.{named_step}
use Rattle.ulfm_schedule.specs.declared.wait.Wait.{Wait}
use Rattle.ulfm_schedule.specs.declared.cargo.Cargo.{Cargo}
use Rattle.ulfm_schedule.specs.declared.cargo.Cargo.TheVariants as cargo
use Rattle.ulfm_schedule.specs.declared.course.Course.{Course}
use Rattle.ulfm_schedule.specs.declared.course.End.{End}
use Rattle.ulfm_schedule.specs.declared.course.End.TheVariants.{Done, Stopped, Unreached}
use Rattle.ulfm_schedule.specs.declared.moved.Deed.{Deed}
use Rattle.ulfm_schedule.specs.declared.moved.Deed.TheVariants.{Left, Took, Opened, Answered}
use Rattle.ulfm_schedule.specs.declared.moved.Move.{Move}
use Rattle.ulfm_schedule.specs.declared.schedule.Schedule.{Schedule}

-- an entry into the shrink of a communicator, or into an agreement on it
abbrev pub entry_text : Purpose → ℕ → List ℕ
entry_text (Shrink round) comm = codes "entry into the shrink of comm " ++ decimal comm
entry_text (Agree round) comm = codes "entry into an agreement on comm " ++ decimal comm

-- an item that goes out from the rank s
abbrev pub item_text : ℕ → Item → List ℕ
item_text s (Mail letter) = codes "message tag " ++ decimal letter.envelope.tag.number ++ codes " length " ++ decimal (length letter.body) ++ codes " comm " ++ decimal letter.envelope.context.number
item_text s Gone = codes "notice that " ++ decimal s ++ codes " stopped"
item_text s (Revoke context) = codes "revocation of comm " ++ decimal context.number
item_text s (Enter entrance) = entry_text entrance.topic.purpose entrance.topic.context.number

-- what goes out from the rank s
abbrev pub cargo_text : ℕ → Cargo → List ℕ
cargo_text s (cargo.Message tag bytes comm) = codes "message tag " ++ decimal tag.number ++ codes " length " ++ decimal bytes ++ codes " comm " ++ decimal comm.number
cargo_text s cargo.Notice = codes "notice that " ++ decimal s ++ codes " stopped"
cargo_text s (cargo.Revocation comm) = codes "revocation of comm " ++ decimal comm.number
cargo_text s (cargo.Shrink comm) = codes "entry into the shrink of comm " ++ decimal comm.number
cargo_text s (cargo.Agreement comm) = codes "entry into an agreement on comm " ++ decimal comm.number

-- the arrow of an item that is taken, or of one on its way
abbrev pub arrow_text : Bool → List ℕ
arrow_text true = codes " -> "
arrow_text false = codes " => "

-- the line of what goes from the rank s to d
abbrev pub passed_text : ℕ → Bool → ℕ → Cargo → List ℕ
passed_text s is_taken d cargo = decimal s ++ arrow_text is_taken ++ decimal d ++ codes ": " ++ cargo_text s cargo ++ codes "\n"

-- the line of a step that is opened
abbrev pub opened_text : JobView → ℕ → ℕ → List ℕ
opened_text j r k = named_step j r k ++ codes ": open\n"

-- the line of a step that has its answer
abbrev pub answered_text : JobView → ℕ → ℕ → StepReport → List ℕ
answered_text j r k report = named_step j r k ++ codes ": " ++ answer_text report.answer ++ codes "\n"

-- the line of what the rank r does
abbrev pub deed_text : JobView → ℕ → Deed → List ℕ
deed_text j r (Left d cargo) = passed_text r false d cargo
deed_text j r (Took s cargo) = passed_text s true r cargo
deed_text j r (Opened k _) = opened_text j r k
deed_text j r (Answered k report) = answered_text j r k report

-- the line of a move
abbrev pub move_text : JobView → Move → List ℕ
move_text j m = deed_text j m.rank m.deed

-- the lines of moves
abbrev pub moves_text : JobView → List Move → List ℕ
moves_text j moves = flat_map (move_text j) moves

-- the line of a step that stands open, as of one that is given up, which may call its communicator by a name
abbrev pub open_line : Option (List ℕ) → ℕ → ℕ → Option Step → List ℕ
open_line called r k None = []
open_line called r k (Some asked) = step_line called r k (step_report asked Unfinished 0 0)

-- how a rank ended, or that its end isn't reached
abbrev pub end_text : ℕ → End → List ℕ
end_text r Done = closing_line r false 0
end_text r Stopped = closing_line r true 0
end_text r Unreached = decimal r ++ codes " end: not reached\n"

-- the lines of a rank
abbrev pub course_text : JobView → Course → List ℕ
course_text j c = step_lines j c.rank 0 c.steps.items ++ open_line (called_at j c.rank (length c.steps.items)) c.rank (length c.steps.items) c.open ++ end_text c.rank c.end

-- the lines of what steps wait for, if that is told
abbrev pub open_text : JobView → Option (Vec Wait Global) → List ℕ
open_text j None = []
open_text j (Some waits) = codes "open steps:\n" ++ flat_map (wait_text j) waits.items

-- a schedule of a job in words
abbrev pub schedule_text : JobView → Schedule → List ℕ
schedule_text j s = codes "events:\n" ++ moves_text j s.moves.items ++ codes "trace:\n" ++ flat_map (course_text j) s.courses.items ++ open_text j s.waits
