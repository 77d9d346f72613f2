-- What is told of an answer, and the bytes that are its code.
use Rattle.std.specs.Prelude.{◌≡◌, ℕ, ◌+◌, ◌*◌, ◌/◌, ◌%◌, ◌==◌, Bool, List, [], ◌∷◌, ◌++◌, Option, Some, None, if◌then◌else◌, option_and_then, option_map, nat_lt, slice_get}
use Rattle.std.specs.List.{position}
use Rattle.std.specs.Str.{bytes_eq}
use Rattle.ulfm_base.specs.Error.{error_text}
use Rattle.ulfm_base.specs.declared.error.CallError.{CallError}
use Rattle.ulfm_base.specs.declared.error.CallError.TheVariants as error
use Rattle.ulfm_answer.specs.declared.answer.StepAnswer.{StepAnswer}
use Rattle.ulfm_answer.specs.declared.answer.StepAnswer.TheVariants.{Sent, Posted, Done, Over, Pending, Found, Cancelled, Ranks, Acked, Revoked, Made, Shrunk, Agreed, Noted, Stopped, Unfinished, Skipped, Refused}
use Rattle.ulfm_answer.specs.declared.told_answer.ToldAnswer.{ToldAnswer}
use Rattle.ulfm_answer.specs.declared.told_answer.ToldAnswer.TheVariants as told

-- an answer without the numbers of requests and messages
abbrev pub told_of : StepAnswer → ToldAnswer
told_of Sent = told.Sent
told_of (Posted id) = told.Posted
told_of (Done status body) = told.Done status.source status.tag.number body
told_of (Over reason) = told.Over reason
told_of Pending = told.Pending
told_of (Found id status) = told.Found status.source status.tag.number status.length
told_of Cancelled = told.Cancelled
told_of (Ranks members) = told.Ranks members.items
told_of (Acked total) = told.Acked total
told_of Revoked = told.Revoked
told_of (Made child) = told.Made child.context.number
told_of (Shrunk child group me) = told.Shrunk child.context.number group me
told_of (Agreed value missing) = told.Agreed value missing.items
told_of Noted = told.Noted
told_of Stopped = told.Stopped
told_of Unfinished = told.Unfinished
told_of Skipped = told.Skipped
told_of (Refused e) = told.Refused e

-- a number by two bytes, the lower one first
abbrev pub two : ℕ → List ℕ
two n = n % 256 ∷ n / 256 ∷ []

-- by four
abbrev pub four : ℕ → List ℕ
four n = two (n % 65536) ++ two (n / 65536)

-- by eight
abbrev pub eight : ℕ → List ℕ
eight n = four (n % 4294967296) ++ four (n / 4294967296)

-- that a duplicate of this context was made: by one byte, or from 256 on by eight
abbrev pub made_code : ℕ → List ℕ
made_code comm = if nat_lt comm 256 then 15 ∷ comm ∷ [] else 18 ∷ eight comm

-- that a shrink made a communicator of this context and group, with the rank's position there
abbrev pub shrunk_code : ℕ → List ℕ → ℕ → List ℕ
shrunk_code comm group me = if nat_lt comm 256 then 16 ∷ comm ∷ me ∷ group else 19 ∷ me ∷ (eight comm ++ group)

-- the code of what is told: a number for its kind, and what it has
abbrev pub code_of : ToldAnswer → List ℕ
code_of told.Sent = 0 ∷ []
code_of told.Posted = 1 ∷ []
code_of told.Pending = 2 ∷ []
code_of told.Cancelled = 3 ∷ []
code_of told.Revoked = 4 ∷ []
code_of told.Noted = 5 ∷ []
code_of told.Stopped = 6 ∷ []
code_of told.Unfinished = 7 ∷ []
code_of told.Skipped = 8 ∷ []
code_of (told.Done source tag body) = 9 ∷ source ∷ (two tag ++ body)
code_of (told.Found source tag length) = 10 ∷ source ∷ (two tag ++ eight length)
code_of (told.Over reason) = 11 ∷ error_text reason
code_of (told.Refused reason) = 12 ∷ error_text reason
code_of (told.Ranks members) = 13 ∷ members
code_of (told.Acked total) = 14 ∷ total ∷ []
code_of (told.Made comm) = made_code comm
code_of (told.Shrunk comm group me) = shrunk_code comm group me
code_of (told.Agreed value missing) = 17 ∷ (four value ++ missing)

-- the code of an answer: that of what is told of it
abbrev pub answer_code : StepAnswer → List ℕ
answer_code answer = code_of (told_of answer)

-- the number that two bytes are
abbrev pub of_two : ℕ → ℕ → ℕ
of_two a b = a + 256 * b

-- that four are
abbrev pub of_four : ℕ → ℕ → ℕ → ℕ → ℕ
of_four a b c d = of_two a b + 65536 * of_two c d

-- what is told of a letter that came, by the rest of a code
abbrev pub read_done : List ℕ → Option ToldAnswer
read_done (source ∷ a ∷ b ∷ body) = Some (told.Done source (of_two a b) body)
read_done _ = None

-- of one that a probe found
abbrev pub read_found : List ℕ → Option ToldAnswer
read_found (source ∷ a ∷ b ∷ c ∷ d ∷ e ∷ f ∷ g ∷ h ∷ i ∷ j ∷ []) = Some (told.Found source (of_two a b) (of_four c d e f + 4294967296 * of_four g h i j))
read_found _ = None

-- all refusals
abbrev pub refusals : List CallError
refusals =
    error.NoComm ∷ error.BadRank ∷ error.BadTag ∷ error.TooLong ∷ error.ProcFailed ∷ error.Revoked ∷ error.NoRequest ∷ error.AlreadyMade ∷ error.NoContext ∷ error.Stopped ∷ error.NotMember
    ∷ error.OutOfMemory ∷ error.BadSize ∷ error.NotEntered ∷ error.Truncated ∷ []

-- this is the text of a refusal
abbrev pub has_text : List ℕ → CallError → Bool
has_text text e = bytes_eq (error_text e) text

-- the refusal that has this text
abbrev pub refusal_of : List ℕ → Option CallError
refusal_of text = option_and_then (slice_get refusals) (position (has_text text) refusals)

-- that a receive is over, and that a call is refused
abbrev pub read_over : List ℕ → Option ToldAnswer
read_over rest = option_map told.Over (refusal_of rest)

abbrev pub read_refused : List ℕ → Option ToldAnswer
read_refused rest = option_map told.Refused (refusal_of rest)

-- how many failures are acknowledged
abbrev pub read_acked : List ℕ → Option ToldAnswer
read_acked (total ∷ []) = Some (told.Acked total)
read_acked _ = None

-- the context of a duplicate
abbrev pub read_made : List ℕ → Option ToldAnswer
read_made (comm ∷ []) = Some (told.Made comm)
read_made _ = None

-- what a shrink made
abbrev pub read_shrunk : List ℕ → Option ToldAnswer
read_shrunk (comm ∷ me ∷ group) = Some (told.Shrunk comm group me)
read_shrunk _ = None

-- the same from context 256 on
abbrev pub read_far_made : List ℕ → Option ToldAnswer
read_far_made (a ∷ b ∷ c ∷ d ∷ e ∷ f ∷ g ∷ h ∷ []) = Some (told.Made (of_four a b c d + 4294967296 * of_four e f g h))
read_far_made _ = None

abbrev pub read_far_shrunk : List ℕ → Option ToldAnswer
read_far_shrunk (me ∷ a ∷ b ∷ c ∷ d ∷ e ∷ f ∷ g ∷ h ∷ group) = Some (told.Shrunk (of_four a b c d + 4294967296 * of_four e f g h) group me)
read_far_shrunk _ = None

-- what was agreed
abbrev pub read_agreed : List ℕ → Option ToldAnswer
read_agreed (a ∷ b ∷ c ∷ d ∷ missing) = Some (told.Agreed (of_four a b c d) missing)
read_agreed _ = None

-- an answer that is told by its kind alone
abbrev pub read_alone : ℕ → Option ToldAnswer
read_alone kind =
    if kind == 0 then Some told.Sent
    else if kind == 1 then Some told.Posted
    else if kind == 2 then Some told.Pending
    else if kind == 3 then Some told.Cancelled
    else if kind == 4 then Some told.Revoked
    else if kind == 5 then Some told.Noted
    else if kind == 6 then Some told.Stopped
    else if kind == 7 then Some told.Unfinished
    else if kind == 8 then Some told.Skipped
    else None

-- by its kind and what follows that
abbrev pub read_kind : ℕ → List ℕ → Option ToldAnswer
read_kind kind rest =
    if kind == 9 then read_done rest
    else if kind == 10 then read_found rest
    else if kind == 11 then read_over rest
    else if kind == 12 then read_refused rest
    else if kind == 13 then Some (told.Ranks rest)
    else if kind == 14 then read_acked rest
    else if kind == 15 then read_made rest
    else if kind == 16 then read_shrunk rest
    else if kind == 17 then read_agreed rest
    else if kind == 18 then read_far_made rest
    else if kind == 19 then read_far_shrunk rest
    else None

-- nothing follows
abbrev pub if_last : List ℕ → Option ToldAnswer → Option ToldAnswer
if_last [] told = told
if_last _ told = None

-- what a code tells
abbrev pub read_code : List ℕ → Option ToldAnswer
read_code [] = None
read_code (kind ∷ rest) = if nat_lt kind 9 then if_last rest (read_alone kind) else read_kind kind rest

-- each code is read back
abbrev pub CodesAreRead : Type 0
CodesAreRead = (told : ToldAnswer) → read_code (code_of told) ≡ Some told
