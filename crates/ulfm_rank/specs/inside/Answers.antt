-- The answers for requests and messages, by what became of them.
use Rattle.std.specs.Prelude.{◌≡◌, ℕ, Bool, ⊤, ◌<◌, List, length, IsSome, if◌then◌else◌}
use Rattle.ulfm_base.specs.declared.envelope.Letter.{Letter}
use Rattle.ulfm_base.specs.declared.pattern.Pattern.{Pattern}
use Rattle.ulfm_base.specs.declared.error.CallError.TheVariants.{ProcFailed, Revoked, Truncated}
use Rattle.ulfm_base.specs.Group.{rank_in}
use Rattle.ulfm_log.specs.declared.entry.TestAnswer.{TestAnswer}
use Rattle.ulfm_log.specs.declared.entry.TestAnswer.TheVariants.{Done, Over, Pending, NotYet}
use Rattle.ulfm_rank.specs.declared.request.Fate.{Fate}
use Rattle.ulfm_rank.specs.declared.request.Fate.TheVariants.{Waiting, Paired, Found, Failed, Cleared}
use Rattle.ulfm_rank.specs.Answer.{IsReceived}

-- the letter with which a receive of this pattern is answered fits its room, or is too long
abbrev pub IsDelivered : List ℕ → Pattern → Letter → TestAnswer → Type 0
IsDelivered group pattern letter (Done status body) = IsReceived group pattern.room letter status body
IsDelivered group pattern letter (Over reason) = (reason ≡ Truncated) × (pattern.room < length letter.body)
IsDelivered group pattern letter _ = ⊥

-- the answer for a request of this group and fate, which pends while it waits or doesn't
abbrev pub GivesAnswer : List ℕ → Bool → Pattern → Fate → TestAnswer → Type 0
GivesAnswer group pending pattern Waiting answer = answer ≡ (if pending then Pending else NotYet)
GivesAnswer group pending pattern (Paired letter) answer = IsDelivered group pattern letter answer
GivesAnswer group pending pattern (Found letter) answer = IsDelivered group pattern letter answer
GivesAnswer group pending pattern Failed answer = answer ≡ Over ProcFailed
GivesAnswer group pending pattern Cleared answer = answer ≡ Over Revoked

-- the sender of the letter that a receive got is a member
abbrev pub HasSender : List ℕ → Fate → Type 0
HasSender group (Paired letter) = IsSome (rank_in group letter.envelope.source.number)
HasSender group (Found letter) = IsSome (rank_in group letter.envelope.source.number)
HasSender group _ = ⊤
