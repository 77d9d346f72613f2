-- The trace: what is printed of the ranks' reports, line by line.
use Rattle.std.specs.Prelude.{ℕ, ◌+◌, Bool, List, [], ◌∷◌, ◌++◌, Option, codes, if◌then◌else◌, ◌==◌}
use Rattle.std.specs.Fmt.{decimal}
use Rattle.std.specs.List.{flat_map}
use Rattle.hex.specs.Hex.{encode_lower}
use Rattle.ulfm_base.specs.Error.{error_text}
use Rattle.ulfm_log.specs.Facts.{is_stopped}
use Rattle.ulfm_answer.specs.declared.answer.StepAnswer.{StepAnswer}
use Rattle.ulfm_answer.specs.declared.answer.StepReport.{StepReport}
use Rattle.ulfm_answer.specs.declared.told_answer.ToldAnswer.{ToldAnswer}
use Rattle.ulfm_answer.specs.declared.told_answer.ToldAnswer.TheVariants.{Sent, Posted, Done, Over, Pending, Found, Cancelled, Ranks, Acked, Revoked, Made, Shrunk, Agreed, Noted, Stopped, Unfinished, Skipped, Refused}
use Rattle.ulfm_answer.specs.Told.{told_of}
use Rattle.ulfm_job.specs.Job.{JobView}
use Rattle.ulfm_job.specs.Naming.{called_at}
use Rattle.ulfm_job.specs.Words.{step_text}
use Rattle.ulfm_answer.specs.Report.{Report}

-- each byte in two lower case hexadecimal digits; the empty body is a dash
abbrev pub body_text : List ℕ → List ℕ
body_text [] = codes "-"
body_text (b ∷ bytes) = encode_lower (b ∷ bytes)

-- numbers, each after a space
abbrev pub spaced : List ℕ → List ℕ
spaced numbers = flat_map (λ n. codes " " ++ decimal n) numbers

-- numbers parted by one space
abbrev pub parted : List ℕ → List ℕ
parted [] = []
parted (n ∷ numbers) = decimal n ++ spaced numbers

-- the words of what is told of an answer
abbrev pub told_text : ToldAnswer → List ℕ
told_text Sent = codes "sent"
told_text Posted = codes "posted"
told_text (Done source tag body) = codes "done from " ++ decimal source ++ codes " tag " ++ decimal tag ++ codes " " ++ body_text body
told_text (Over reason) = codes "over " ++ error_text reason
told_text Pending = codes "pending"
told_text (Found source tag length) = codes "found from " ++ decimal source ++ codes " tag " ++ decimal tag ++ codes " length " ++ decimal length
told_text Cancelled = codes "cancelled"
told_text (Ranks members) = codes "ranks [" ++ parted members ++ codes "]"
told_text (Acked total) = codes "acked " ++ decimal total
told_text Revoked = codes "revoked"
told_text (Made comm) = codes "comm " ++ decimal comm
told_text (Shrunk comm group me) = codes "comm " ++ decimal comm ++ codes " ranks [" ++ parted group ++ codes "] me " ++ decimal me
told_text (Agreed value missing) = codes "agreed " ++ decimal value ++ codes " without [" ++ parted missing ++ codes "]"
told_text Noted = codes "noted"
told_text Stopped = codes "stopped"
told_text Unfinished = codes "unfinished"
told_text Skipped = codes "skipped"
told_text (Refused e) = codes "refused " ++ error_text e

-- the words of an answer: those of what is told of it
abbrev pub answer_text : StepAnswer → List ℕ
answer_text answer = told_text (told_of answer)

-- the line of a rank's step of this number, which may call its communicator by a name
abbrev pub step_line : Option (List ℕ) → ℕ → ℕ → StepReport → List ℕ
step_line called me k report = decimal me ++ codes " " ++ decimal k ++ codes " " ++ step_text called report.step ++ codes ": " ++ answer_text report.answer ++ codes "\n"

-- the lines of a rank's steps, the first of them numbered k, by the names of a job
abbrev pub step_lines : JobView → ℕ → ℕ → List StepReport → List ℕ
step_lines j me k [] = []
step_lines j me k (report ∷ reports) = step_line (called_at j me k) me k report ++ step_lines j me (k + 1) reports

-- what a closing line says of turns without room, where there were any
abbrev pub starved_text : ℕ → List ℕ
starved_text k = if k == 0 then [] else codes " starved " ++ decimal k

-- the closing line of a rank
abbrev pub closing_line : ℕ → Bool → ℕ → List ℕ
closing_line me has_stopped starved = decimal me ++ codes " end: " ++ (if has_stopped then codes "stopped" else codes "done") ++ starved_text starved ++ codes "\n"

-- a rank's lines: its answered steps in order, then one that says how it ended
abbrev pub rank_text : JobView → Report → List ℕ
rank_text j report = step_lines j report.rank.me 0 report.steps ++ closing_line report.rank.me (is_stopped report.rank.log) report.starved

-- the lines of all ranks, in the order of the reports
abbrev pub trace_of : JobView → List Report → List ℕ
trace_of j reports = flat_map (rank_text j) reports
