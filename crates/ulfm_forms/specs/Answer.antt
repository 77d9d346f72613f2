-- Answers: an object each, whose `is` is the first word of the answer.
use Rattle.std.specs.Prelude.{ℕ, List, [], ◌++◌, codes}
use Rattle.std.specs.Fmt.{decimal}
use Rattle.hex.specs.Hex.{encode_lower}
use Rattle.ulfm_log.specs.declared.entry.Status.{Status}
use Rattle.ulfm_answer.specs.declared.answer.StepAnswer.{StepAnswer}
use Rattle.ulfm_answer.specs.declared.answer.StepAnswer.TheVariants.{Sent, Posted, Done, Over, Pending, Found, Cancelled, Ranks, Acked, Revoked, Made, Shrunk, Agreed, Noted, Stopped, Unfinished, Skipped, Refused}
use Rattle.ulfm_forms.specs.Call.{comm_json}
use Rattle.ulfm_forms.specs.Parts.{error_json, numbers_json}

-- the first word of an answer
abbrev pub word_text : StepAnswer → List ℕ
word_text Sent = codes "sent"
word_text (Posted id) = codes "posted"
word_text (Done status body) = codes "done"
word_text (Over reason) = codes "over"
word_text Pending = codes "pending"
word_text (Found id status) = codes "found"
word_text Cancelled = codes "cancelled"
word_text (Ranks members) = codes "ranks"
word_text (Acked total) = codes "acked"
word_text Revoked = codes "revoked"
word_text (Made child) = codes "comm"
word_text (Shrunk child group me) = codes "comm"
word_text (Agreed value missing) = codes "agreed"
word_text Noted = codes "noted"
word_text Stopped = codes "stopped"
word_text Unfinished = codes "unfinished"
word_text Skipped = codes "skipped"
word_text (Refused error) = codes "refused"

-- where a letter is from, and its tag
abbrev pub status_json : Status → List ℕ
status_json status = codes ",\"from\":" ++ decimal status.source ++ codes ",\"tag\":" ++ decimal status.tag.number

-- the keys that an answer has beside its first word; a body is two lower case hexadecimal digits a byte
abbrev pub told_json : StepAnswer → List ℕ
told_json (Done status body) = status_json status ++ codes ",\"body\":\"" ++ encode_lower body ++ codes "\""
told_json (Over reason) = error_json reason
told_json (Found id status) = status_json status ++ codes ",\"length\":" ++ decimal status.length
told_json (Ranks members) = codes ",\"ranks\":" ++ numbers_json members.items
told_json (Acked total) = codes ",\"total\":" ++ decimal total
told_json (Made child) = comm_json child.context
told_json (Shrunk child group me) = comm_json child.context ++ codes ",\"ranks\":" ++ numbers_json group ++ codes ",\"me\":" ++ decimal me
told_json (Agreed value missing) = codes ",\"value\":" ++ decimal value ++ codes ",\"without\":" ++ numbers_json missing.items
told_json (Refused error) = error_json error
told_json _ = []

-- an answer
abbrev pub answer_json : StepAnswer → List ℕ
answer_json answer = codes "{\"is\":\"" ++ word_text answer ++ codes "\"" ++ told_json answer ++ codes "}"
