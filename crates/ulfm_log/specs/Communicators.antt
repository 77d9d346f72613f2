-- The communicators that a log made, with their groups (MPI 4.0, 7.4.2; ULFM, shrink).
use Rattle.std.specs.Prelude.{◌≡◌, ◌<◌, All, ℕ, suc, Bool, List, [], ◌∷◌, ◌==◌, max, Option, Some, None, is_some, if◌then◌else◌}
use Rattle.ulfm_base.specs.Context.{nth_dup, nth_shrink}
use Rattle.ulfm_base.specs.Table.{count_at}
use Rattle.ulfm_base.specs.Group.{numbers_from}
use Rattle.ulfm_base.specs.Table.{value_of}
use Rattle.ulfm_base.specs.declared.topic.Purpose.{Purpose}
use Rattle.ulfm_base.specs.declared.topic.Purpose.TheVariants.{Shrink, Agree}
use Rattle.ulfm_log.specs.declared.entry.Entry.{Entry}
use Rattle.ulfm_log.specs.declared.entry.Entry.TheVariants.{Duplicated, Adopted}
use Rattle.ulfm_log.specs.Log.{gathered, by_found}

-- The communicators with their groups, of which contexts so many duplicates are counted, and whether there is room for one more
-- communicator and one more such context.
pub record CommunicatorsView : Type 0 where
  pub made : List (ℕ × List ℕ)
  pub dups : List (ℕ × ℕ)
  pub room : Bool

-- the group that stands under a context
abbrev pub find_group : ℕ → List (ℕ × List ℕ) → Option (List ℕ)
find_group c comms = value_of c comms

-- the communicator with the group of c, under another context
abbrev pub copy_of : ℕ → ℕ → List (ℕ × List ℕ) → List (ℕ × List ℕ)
copy_of c d [] = []
copy_of c d (comm ∷ comms) = if comm.0 == c then (d, comm.1) ∷ [] else copy_of c d comms

-- the communicator that a decision on c makes, with this new group: a shrink makes one, and an agreement none
abbrev pub decided_comm : Purpose → ℕ → List ℕ → List (ℕ × List ℕ)
decided_comm (Shrink round) c fresh = (nth_shrink round c, fresh) ∷ []
decided_comm (Agree round) c fresh = []

-- the communicator that an entry makes: a duplicate with its parent's group, or the new group of a shrink
abbrev pub made_by : List (ℕ × List ℕ) → Entry → List (ℕ × List ℕ)
made_by comms (Duplicated context k) = copy_of context.number (nth_dup k context.number) comms
made_by _ (Adopted decision) = decided_comm decision.topic.purpose decision.topic.context.number decision.fresh
made_by _ _ = []

-- the communicators at a rank of n with their groups, in the order in which they were made: the world's is the first
abbrev pub comms_of : ℕ → List Entry → List (ℕ × List ℕ)
comms_of n log = gathered ((0, numbers_from 0 n) ∷ []) (by_found made_by) log

-- the group of a context, if its communicator was made
abbrev pub group_of : ℕ → List Entry → ℕ → Option (List ℕ)
group_of n log c = find_group c (comms_of n log)

-- the communicator of a context was made
abbrev pub is_made : ℕ → List Entry → ℕ → Bool
is_made n log c = is_some (group_of n log c)

-- a group, or no members where there is none
abbrev pub or_empty : Option (List ℕ) → List ℕ
or_empty None = []
or_empty (Some group) = group

-- the members of a context whose communicator was made
abbrev pub members_of : ℕ → List Entry → ℕ → List ℕ
members_of n log c = or_empty (group_of n log c)

-- each member of these communicators is a rank of the world
abbrev pub AreOfWorld : ℕ → List (ℕ × List ℕ) → Type 0
AreOfWorld n comms = All (λ (comm : ℕ × List ℕ). All (λ r. r < n) comm.1) comms

-- the duplicates of c that are counted after an entry, where so many were before: each number counts, and those below it
abbrev pub dups_by : ℕ → ℕ → Entry → ℕ
dups_by c count (Duplicated context k) = if context.number == c then max count (suc k) else count
dups_by c count _ = count

-- the duplicates of c that are counted after these entries, where so many were before
abbrev pub dups_from : ℕ → ℕ → List Entry → ℕ
dups_from c count [] = count
dups_from c count (e ∷ rest) = dups_from c (dups_by c count e) rest

-- how many duplicates of c are counted: one more than the greatest of their numbers
abbrev pub dups_of : List Entry → ℕ → ℕ
dups_of log c = dups_from c 0 log

-- the communicators of a rank of n are those that its log made, and their duplicates are counted as it says
pub record HasCommunicators (n : ℕ) (log : List Entry) (comms : CommunicatorsView) : Type 0 where
  pub made : comms.made ≡ comms_of n log
  pub of_world : AreOfWorld n comms.made
  pub counts : (c : ℕ) → count_at comms.dups c ≡ dups_of log c

-- the same communicators and counts, whatever room there is
pub record HasSame (old new : CommunicatorsView) : Type 0 where
  pub made : new.made ≡ old.made
  pub dups : new.dups ≡ old.dups
