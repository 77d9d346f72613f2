-- What words the answer of a step may begin with.
use Rattle.std.specs.Prelude.{ℕ, nat_le, Bool, not, ◌&&◌, ◌||◌, List, [], ◌∷◌, ◌++◌, length, map, codes}
use Rattle.std.specs.List.{list_any}
use Rattle.ulfm_base.specs.Error.{error_text}
use Rattle.ulfm_base.specs.declared.error.CallError.{CallError}
use Rattle.ulfm_base.specs.declared.error.CallError.TheVariants.{NoComm, BadRank, BadTag, TooLong, ProcFailed, Revoked, NoRequest, AlreadyMade, NoContext, Stopped, NotMember, OutOfMemory, BadSize, NotEntered, Truncated}
use Rattle.ulfm_job.specs.Begins.{begins}
use Rattle.ulfm_job.specs.Ops.{op_answers, may_stay_open, is_never_refused}
use Rattle.ulfm_job.specs.declared.op.Op.{Op}
use Rattle.ulfm_reader.specs.Plan.{Order, op_in}

-- the beginnings behind which an answer goes on
abbrev pub fronts : List (List ℕ)
fronts = codes "done from" ∷ codes "found from" ∷ codes "ranks" ∷ codes "acked" ∷ codes "comm" ∷ codes "agreed" ∷ []

-- an answer goes on behind this text
abbrev pub is_front : List ℕ → Bool
is_front text = list_any (begins text) fronts

-- an answer that begins with this text may begin with the words: the text does, or the words do with the text, where an answer goes on
abbrev pub begin_alike : List ℕ → List ℕ → Bool
begin_alike text words = begins text words || (is_front text && begins words text)

-- all refusals, by their numbers
abbrev pub all_errors : List CallError
all_errors =
    NoComm ∷ BadRank ∷ BadTag ∷ TooLong ∷ ProcFailed ∷ Revoked ∷ NoRequest ∷ AlreadyMade ∷ NoContext ∷ Stopped ∷ NotMember ∷ OutOfMemory
    ∷ BadSize ∷ NotEntered ∷ Truncated ∷ []

-- the answers that tell of something in the way: how a receive is over, and each refusal
abbrev pub refusals : List (List ℕ)
refusals =
    map (λ e. codes "over " ++ error_text e) (ProcFailed ∷ Revoked ∷ Truncated ∷ []) ++ map (λ e. codes "refused " ++ error_text e) all_errors

-- a step that isn't played, or is given up
abbrev pub not_answered : List (List ℕ)
not_answered = codes "skipped" ∷ codes "unfinished" ∷ []

-- the words and one of these texts begin alike
abbrev pub is_alike : List (List ℕ) → List ℕ → Bool
is_alike texts words = list_any (λ text. begin_alike text words) texts

-- words with which an answer of the op may begin that isn't refused, where no receive is told over
abbrev pub is_own : Op → List ℕ → Bool
is_own op words = is_alike (op_answers op) words || (may_stay_open op && is_alike (codes "unfinished" ∷ []) words)

-- words of at most 1,024 bytes, with which an answer of the op may begin
abbrev pub may_tell : Op → List ℕ → Bool
may_tell op words = nat_le (length words) 1024 && (is_own op words || (not (is_never_refused op) && is_alike refusals words))

-- words with which an answer of the order may begin
abbrev pub may_expect : Order → List ℕ → Bool
may_expect order words = may_tell (op_in order) words

-- words with which an answer that a condition asks for may begin: it may also ask whether the step was skipped or is unfinished
abbrev pub may_ask : Order → List ℕ → Bool
may_ask order words = is_alike not_answered words || may_expect order words

-- words with which an answer that must not go with others may begin: the step may also be skipped
abbrev pub may_answer : Order → List ℕ → Bool
may_answer order words = is_alike (codes "skipped" ∷ []) words || may_expect order words
