-- One order of all that the ranks of a job did: what is taken is owed earlier, and what is adopted proposed (MPI 4.0, 3.5; ULFM).
use Rattle.std.specs.Prelude.{◌≡◌, ℕ, Bool, true, false, ◌==◌, ◌+◌, ◌<◌, ◌≤◌, List, length, take, if◌then◌else◌}
use Rattle.std.specs.List.{count_by}
use Rattle.ulfm_base.specs.declared.context.Context.{Context}
use Rattle.ulfm_base.specs.declared.decision.Decision.{Decision}
use Rattle.ulfm_base.specs.declared.envelope.Letter.{Letter}
use Rattle.ulfm_base.specs.declared.item.Item.{Item}
use Rattle.ulfm_base.specs.declared.item.Item.TheVariants.{Letter as Mail, Gone, Revoke, Enter}
use Rattle.ulfm_base.specs.declared.rank.WorldRank.{WorldRank}
use Rattle.ulfm_base.specs.Lists.{at}
use Rattle.ulfm_base.specs.RankSet.{has}
use Rattle.ulfm_log.specs.declared.entry.Entry.{Entry}
use Rattle.ulfm_log.specs.declared.entry.Entry.TheVariants.{Sent, Revoked, Adopted, Stopped, Took}
use Rattle.ulfm_log.specs.Facts.{is_revoked, is_stopped, revokes}
use Rattle.ulfm_log.specs.Proposal.{has_entered}
use Rattle.ulfm_answer.specs.Report.{Report}
use Rattle.ulfm_report_laws.specs.Proposed.{IsProposalEarlier, IsProposedEarlier}

-- an item is a letter
abbrev pub is_letter : Item → Bool
is_letter (Mail letter) = true
is_letter _ = false

-- an entry sends a letter to the rank d
abbrev pub sends_to : ℕ → Entry → Bool
sends_to d (Sent to letter) = to.number == d
sends_to d _ = false

-- an entry takes a letter of the rank s
abbrev pub takes_letter : ℕ → Entry → Bool
takes_letter s (Took from item) = if from.number == s then is_letter item else false
takes_letter s _ = false

-- Entries of the rank s owe this item to the rank d, whose log was `before`: a letter, where they send d more letters than it took of s;
-- a revocation, an entrance or the notice of a stop, where they revoke, enter or stop.
abbrev pub Owe : ℕ → ℕ → List Entry → List Entry → Item → Type 0
Owe s d entries before (Mail letter) = count_by (takes_letter s) before < count_by (sends_to d) entries
Owe s d entries before (Revoke context) = is_revoked entries context.number ≡ true
Owe s d entries before (Enter entrance) = has_entered entries entrance.topic ≡ true
Owe s d entries before Gone = is_stopped entries ≡ true

-- What the rank d takes of the rank s at place k, where its log was `before`, is owed by the first `count` entries of s, which all come earlier.
pub record IsOwedEarlier (reports : List Report) (time : ℕ → ℕ → ℕ) (s d k : ℕ) (before : List Entry) (item : Item) : Type 0 where
  pub sender : Report
  pub reported : at reports s sender
  pub count : ℕ
  pub earlier : (j : ℕ) → j < count → time s j < time d k
  pub owed : Owe s d (take count sender.rank.log) before item

-- All logs have one order: a time for each entry of each rank, rising in each log, such that what is taken is owed earlier, and a
-- decision that is adopted is proposed earlier, by some rank or by this one.
pub record HaveOneOrder (reports : List Report) : Type 0 where
  pub time : ℕ → ℕ → ℕ
  pub onward : (r k : ℕ) (told : Report) → at reports r told → k + 1 < length told.rank.log → time r k < time r (k + 1)
  pub owed_earlier : (d k : ℕ) (receiver : Report) (source : WorldRank) (item : Item) → at reports d receiver
      → at receiver.rank.log k (Took source item)
      → IsOwedEarlier reports time source.number d k (take k receiver.rank.log) item
  pub proposed_earlier : (r k : ℕ) (told : Report) (d : Decision) → at reports r told → at told.rank.log k (Adopted d)
      → IsProposedEarlier reports time (time r k) d

-- a letter that the rank d took of the rank s at place k of its log was sent to it by an earlier entry
pub record IsSentEarlier (reports : List Report) (time : ℕ → ℕ → ℕ) (s d k : ℕ) (letter : Letter) : Type 0 where
  pub sender : Report
  pub reported : at reports s sender
  pub place : ℕ
  pub to : WorldRank
  pub is_to : to.number ≡ d
  pub sent : at sender.rank.log place (Sent to letter)
  pub earlier : time s place < time d k

-- each letter that was taken was sent by an earlier entry (MPI 4.0, 3.5)
abbrev pub LettersComeLater : List Report → (ℕ → ℕ → ℕ) → Type 0
LettersComeLater reports time =
    (d k : ℕ) (receiver : Report) (source : WorldRank) (letter : Letter) → at reports d receiver → at receiver.rank.log k (Took source (Mail letter))
    → IsSentEarlier reports time source.number d k letter

-- some rank's own call revoked the context c at this time or earlier
pub record IsRevokedBy (reports : List Report) (time : ℕ → ℕ → ℕ) (c now : ℕ) : Type 0 where
  pub rank : ℕ
  pub told : Report
  pub reported : at reports rank told
  pub place : ℕ
  pub context : Context
  pub is_context : context.number ≡ c
  pub called : at told.rank.log place (Revoked context)
  pub by_then : time rank place ≤ now

-- each entry that revokes a context is some rank's own call, or comes later than one (ULFM, revocation)
abbrev pub RevocationsComeLater : List Report → (ℕ → ℕ → ℕ) → Type 0
RevocationsComeLater reports time =
    (d k c : ℕ) (told : Report) (entry : Entry) → at reports d told → at told.rank.log k entry → revokes c entry ≡ true → IsRevokedBy reports time c (time d k)

-- the rank s stopped earlier than at this time
pub record HasStoppedBefore (reports : List Report) (time : ℕ → ℕ → ℕ) (s now : ℕ) : Type 0 where
  pub sender : Report
  pub reported : at reports s sender
  pub place : ℕ
  pub stopped : at sender.rank.log place Stopped
  pub earlier : time s place < now

-- each notice of a failure that was taken comes later than the stop (ULFM, failure notification)
abbrev pub FailuresComeLater : List Report → (ℕ → ℕ → ℕ) → Type 0
FailuresComeLater reports time =
    (d k : ℕ) (receiver : Report) (source : WorldRank) → at reports d receiver → at receiver.rank.log k (Took source Gone)
    → HasStoppedBefore reports time source.number (time d k)

-- each rank that an adopted decision excludes had stopped earlier (ULFM, shrink and agree)
abbrev pub ExclusionsComeLater : List Report → (ℕ → ℕ → ℕ) → Type 0
ExclusionsComeLater reports time =
    (r k : ℕ) (told : Report) (d : Decision) (x : ℕ) → at reports r told → at told.rank.log k (Adopted d) → has d.excluded x ≡ true
    → HasStoppedBefore reports time x (time r k)

-- each decision that is adopted is some rank's proposal, which it made earlier (ULFM, shrink and agree)
abbrev pub DecisionsAreProposals : List Report → (ℕ → ℕ → ℕ) → Type 0
DecisionsAreProposals reports time =
    (r k : ℕ) (told : Report) (d : Decision) → at reports r told → at told.rank.log k (Adopted d)
    → IsProposalEarlier (length reports) reports time (time r k) d
