-- What a step asks for.
use Rattle.std.specs.Prelude.{ℕ, Bool, true, false, List, [], ◌++◌, Option, Some, None, codes}
use Rattle.std.specs.Fmt.{decimal}
use Rattle.ulfm_base.specs.declared.context.Context.{Context}
use Rattle.ulfm_base.specs.declared.tag.Tag.{Tag}
use Rattle.ulfm_job.specs.Ops.{op_name, op_of}
use Rattle.ulfm_job.specs.Words.{ToldStep}
use Rattle.ulfm_job.specs.declared.step.Step.{Step}
use Rattle.ulfm_job.specs.declared.step.Step.TheVariants.{Send, Recv, Wait, Probe, Mrecv, Cancel, Failed, Ack, Revoke, Dup, Shrink, Agree, Note, Stop}

-- the key of a source, where any is `null`
abbrev pub from_json : Option ℕ → List ℕ
from_json None = codes ",\"from\":null"
from_json (Some rank) = codes ",\"from\":" ++ decimal rank

-- the key of a tag, where any is `null`
abbrev pub tag_json : Option Tag → List ℕ
tag_json None = codes ",\"tag\":null"
tag_json (Some tag) = codes ",\"tag\":" ++ decimal tag.number

-- the key of a communicator
abbrev pub comm_json : Context → List ℕ
comm_json comm = codes ",\"comm\":" ++ decimal comm.number

-- the key of a communicator that is called by a name, or by its number
abbrev pub called_json : Option (List ℕ) → Context → List ℕ
called_json None comm = comm_json comm
called_json (Some name) comm = codes ",\"comm\":\"" ++ name ++ codes "\""

-- the key of a step that asks for a further communicator, or nothing
abbrev pub again_json : Bool → List ℕ
again_json true = codes ",\"again\":true"
again_json false = []

-- the keys of what is sought: a source, a tag, and a communicator
abbrev pub sought_json : Option (List ℕ) → Option ℕ → Option Tag → Context → List ℕ
sought_json called source tag comm = from_json source ++ tag_json tag ++ called_json called comm

-- the key of an earlier step
abbrev pub req_json : ℕ → List ℕ
req_json req = codes ",\"req\":" ++ decimal req

-- the keys that a step has beside its op
abbrev pub keys_json : Option (List ℕ) → Step → List ℕ
keys_json called (Send to tag body comm) = codes ",\"to\":" ++ decimal to ++ codes ",\"tag\":" ++ decimal tag.number ++ called_json called comm
keys_json called (Recv source tag room comm) = sought_json called source tag comm
keys_json called (Wait req) = req_json req
keys_json called (Probe source tag comm) = sought_json called source tag comm
keys_json called (Mrecv req room) = req_json req
keys_json called (Cancel req) = req_json req
keys_json called (Failed comm) = called_json called comm
keys_json called (Ack count comm) = codes ",\"count\":" ++ decimal count ++ called_json called comm
keys_json called (Revoke comm) = called_json called comm
keys_json called (Dup comm again) = called_json called comm ++ again_json again
keys_json called (Shrink comm again) = called_json called comm ++ again_json again
keys_json called (Agree flag comm) = codes ",\"flag\":" ++ decimal flag ++ called_json called comm
keys_json called (Note text) = codes ",\"text\":\"" ++ text ++ codes "\""
keys_json called Stop = []

-- the keys of a step: its op, and what the words of the step have
abbrev pub call_json : ToldStep → List ℕ
call_json t = codes "\"op\":\"" ++ op_name (op_of t.step) ++ codes "\"" ++ keys_json t.called t.step
