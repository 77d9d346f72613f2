-- Answers as MPI has them.
use Rattle.std.specs.Prelude.{ℕ, nat_le, nat_lt, Bool, List, Option, Some, None, length, [], ◌∷◌, ◌++◌, ◌&&◌, ◌==◌, codes, if◌then◌else◌, not}
use Rattle.std.specs.Fmt.{decimal}
use Rattle.std.specs.List.{list_all}
use Rattle.std.specs.Str.{is_utf8}
use Rattle.ulfm_answer.specs.Trace.{body_text, told_text}
use Rattle.ulfm_answer.specs.declared.told_answer.ToldAnswer.{ToldAnswer}
use Rattle.ulfm_answer.specs.declared.told_answer.ToldAnswer.TheVariants.{Sent, Posted, Done, Over, Pending, Found, Cancelled, Ranks, Acked, Revoked, Made, Shrunk, Agreed, Noted, Stopped, Unfinished, Skipped, Refused}
use Rattle.ulfm_base.specs.Error.{error_text}
use Rattle.ulfm_base.specs.declared.error.CallError.{CallError}
use Rattle.ulfm_base.specs.declared.error.CallError.TheVariants as error
use Rattle.ulfm_forms.specs.Parts.{numbers_json}

-- an error class that says less than the refusal, which stands behind it
abbrev pub mpi_other : CallError → List ℕ
mpi_other e = codes "MPI_ERR_OTHER (" ++ error_text e ++ codes ")"

-- the error class of a refusal
abbrev pub mpi_class : CallError → List ℕ
mpi_class error.NoComm = codes "MPI_ERR_COMM"
mpi_class error.BadRank = codes "MPI_ERR_RANK"
mpi_class error.BadTag = codes "MPI_ERR_TAG"
mpi_class error.TooLong = codes "MPI_ERR_COUNT"
mpi_class error.ProcFailed = codes "MPIX_ERR_PROC_FAILED"
mpi_class error.Revoked = codes "MPIX_ERR_REVOKED"
mpi_class error.NoRequest = codes "MPI_ERR_REQUEST"
mpi_class error.OutOfMemory = codes "MPI_ERR_NO_MEM"
mpi_class error.Truncated = codes "MPI_ERR_TRUNCATE"
mpi_class error.AlreadyMade = mpi_other error.AlreadyMade
mpi_class error.NoContext = mpi_other error.NoContext
mpi_class error.Stopped = mpi_other error.Stopped
mpi_class error.NotMember = mpi_other error.NotMember
mpi_class error.BadSize = mpi_other error.BadSize
mpi_class error.NotEntered = mpi_other error.NotEntered

-- this byte is a letter, a digit or a sign of ASCII, or a space, but not the quote that would end a text
abbrev pub is_shown : ℕ → Bool
is_shown byte = nat_le 32 byte && nat_lt byte 127 && not (byte == 34)

-- a body as text, if it is UTF-8
abbrev pub text_of : List ℕ → Option (List ℕ)
text_of body = if is_utf8 body then Some body else None

-- a body as text, if it is printable: it has bytes, all of them are shown, and so they are UTF-8
abbrev pub printable : List ℕ → Option (List ℕ)
printable body = if nat_lt 0 (length body) && list_all is_shown body then text_of body else None

-- a text in quotes, if there is one
abbrev pub quoted : Option (List ℕ) → List ℕ
quoted None = []
quoted (Some text) = codes " \"" ++ text ++ codes "\""

-- a body as text in quotes, if it is printable
abbrev pub mpi_quoted : List ℕ → List ℕ
mpi_quoted body = quoted (printable body)

-- where a message is from, and its tag
abbrev pub mpi_status : ℕ → ℕ → List ℕ
mpi_status source tag = codes "MPI_SUCCESS, source " ++ decimal source ++ codes ", tag " ++ decimal tag

-- a body: two digits a byte, and the text that it is
abbrev pub mpi_body : List ℕ → List ℕ
mpi_body body = body_text body ++ mpi_quoted body

-- a message that came
abbrev pub mpi_done : ℕ → ℕ → List ℕ → List ℕ
mpi_done source tag body = mpi_status source tag ++ codes ", body " ++ mpi_body body

-- how many failures are acknowledged
abbrev pub mpi_acked : ℕ → List ℕ
mpi_acked total = codes "MPI_SUCCESS, acknowledged " ++ decimal total

-- what was agreed: whether the call has an error class is the acknowledged failures' to say, where it is without members
abbrev pub mpi_agreed : ℕ → List ℕ → List ℕ
mpi_agreed value [] = codes "MPI_SUCCESS, flag " ++ decimal value
mpi_agreed value (member ∷ missing) = codes "flag " ++ decimal value ++ codes ", without " ++ numbers_json (member ∷ missing)

-- what the call of MPI or ULFM returns, and what it gives
abbrev pub mpi_answer : ToldAnswer → List ℕ
mpi_answer Sent = codes "MPI_SUCCESS"
mpi_answer Posted = codes "MPI_SUCCESS"
mpi_answer (Done source tag body) = mpi_done source tag body
mpi_answer (Over reason) = mpi_class reason
mpi_answer Pending = codes "MPIX_ERR_PROC_FAILED_PENDING"
mpi_answer (Found source tag length) = mpi_status source tag ++ codes ", length " ++ decimal length
mpi_answer Cancelled = codes "MPI_SUCCESS, cancelled"
mpi_answer (Ranks members) = codes "MPI_SUCCESS, failed " ++ numbers_json members
mpi_answer (Acked total) = mpi_acked total
mpi_answer Revoked = codes "MPI_SUCCESS"
mpi_answer (Made comm) = codes "MPI_SUCCESS, comm " ++ decimal comm
mpi_answer (Shrunk comm group me) = codes "MPI_SUCCESS, comm " ++ decimal comm ++ codes ", ranks " ++ numbers_json group ++ codes ", rank " ++ decimal me
mpi_answer (Agreed value missing) = mpi_agreed value missing
mpi_answer Noted = told_text Noted
mpi_answer Stopped = told_text Stopped
mpi_answer Unfinished = told_text Unfinished
mpi_answer Skipped = told_text Skipped
mpi_answer (Refused reason) = mpi_class reason
